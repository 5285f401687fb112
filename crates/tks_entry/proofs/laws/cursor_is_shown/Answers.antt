use Rattle.tks_entry.proofs.Cursor.{column_inside, cursor_in_cells}
use Rattle.tks_entry.proofs.laws.cursor_is_shown.Goals as goal

pub returns-clause-inside : goal.returns-clause-inside
returns-clause-inside c = column_inside

pub returns-clause-shown : goal.returns-clause-shown
returns-clause-shown c = cursor_in_cells
