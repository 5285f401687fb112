use Rattle.std.proofs.Common.{rules}
use Rattle.tks_entry.proofs.entry.EntryWidget.cursor_place.Goals as goal

pub returns-clause-value : goal.returns-clause-value
returns-clause-value = search rules

pub returns-clause-inside : goal.returns-clause-inside
returns-clause-inside = search rules
