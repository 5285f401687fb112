use Rattle.std.proofs.Common.{rules}
use Rattle.tks_entry.proofs.entry.EntryWidget.restore.Goals as goal

pub returns-in-Entry : goal.returns-in-Entry
returns-in-Entry = search rules
