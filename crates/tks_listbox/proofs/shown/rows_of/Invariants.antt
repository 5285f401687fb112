use Rattle.std.proofs.Common.{◌≡◌}
use Rattle.tks_opt.specs.Cells.{rows}
use Rattle.tks_listbox.specs.Shown.{row_from}
use Rattle.tks_listbox.proofs.shown.rows_of.Given as goal

-- the rows so far
abbrev pub invariant-loop-index : goal.invariant-loop-index
invariant-loop-index l = l.cells ≡ rows (row_from l.items l.first) l.width l.index
