use Rattle.std.proofs.Common.{◌≡◌}
use Rattle.tks_button.specs.Block.{lines, block_cell}
use Rattle.tks_opt.specs.Cells.{rows}
use Rattle.tks_button.proofs.block.block_rows.Given as goal

-- the rows so far
abbrev pub invariant-loop-row : goal.invariant-loop-row
invariant-loop-row l = l.cells ≡ rows (block_cell (lines l.text) l.fn.anchor l.width l.height) l.width l.row
