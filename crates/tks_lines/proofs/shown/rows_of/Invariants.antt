use Rattle.std.proofs.Common.{◌≡◌}
use Rattle.tks_opt.specs.Cells.{rows}
use Rattle.tks_lines.specs.Shown.{line_seen}
use Rattle.tks_lines.proofs.shown.rows_of.Given as goal

-- the rows so far
abbrev pub invariant-loop-index : goal.invariant-loop-index
invariant-loop-index l = l.cells ≡ rows (line_seen l.text l.first) l.width l.index
