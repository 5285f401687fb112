use Rattle.std.proofs.Common.{◌≡◌}
use Rattle.tks_opt.specs.Cells.{rows}
use Rattle.tks_entry.specs.Shown.{line_in_first}
use Rattle.tks_entry.proofs.shown.rows_of.Given as goal

-- the rows so far
abbrev pub invariant-loop-index : goal.invariant-loop-index
invariant-loop-index l = l.cells ≡ rows (line_in_first l.line) l.width l.index
