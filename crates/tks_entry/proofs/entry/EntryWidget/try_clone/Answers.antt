use Rattle.std.proofs.Common.{rules}
use Rattle.tks_entry.proofs.entry.EntryWidget.try_clone.Goals as goal

pub returns : goal.returns
returns = search rules
