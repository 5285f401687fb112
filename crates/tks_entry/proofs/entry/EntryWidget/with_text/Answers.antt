use Rattle.std.proofs.Common.{rules}
use Rattle.tks_entry.proofs.entry.EntryWidget.with_text.Goals as goal

pub returns : goal.returns
returns = search rules
