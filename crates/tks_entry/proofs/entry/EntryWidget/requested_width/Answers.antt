use Rattle.std.proofs.Common.{rules}
use Rattle.tks_entry.proofs.entry.EntryWidget.requested_width.Goals as goal

pub returns-in-Some-eq0 : goal.returns-in-Some-eq0
returns-in-Some-eq0 = search rules
