use Rattle.std.proofs.Common.{◌≡◌}
use Rattle.tks_opt.specs.Cells.{space, rows}
use Rattle.tks_opt.proofs.cells.blank_rows.Given as goal

-- the rows so far
abbrev pub invariant-loop-row : goal.invariant-loop-row
invariant-loop-row l = l.cells ≡ rows (λ _ _. space) l.width l._row
