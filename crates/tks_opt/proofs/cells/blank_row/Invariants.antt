use Rattle.std.proofs.Common.{◌≡◌}
use Rattle.tks_opt.specs.Cells.{space, row}
use Rattle.tks_opt.proofs.cells.blank_row.Given as goal

-- the cells so far
abbrev pub invariant-loop-column : goal.invariant-loop-column
invariant-loop-column l = l.cells ≡ row (λ _. space) l._column
