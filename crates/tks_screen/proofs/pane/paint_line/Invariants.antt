use Rattle.std.proofs.Common.{◌≡◌, ℕ, length, get_or}
use Rattle.tks_opt.specs.Cells.{space}
use Rattle.tks_screen.specs.Panes.{over}
use Rattle.tks_screen.proofs.Changing.{changed_to}
use Rattle.tks_screen.proofs.pane.paint_line.Given as goal

-- the cells of the columns before are painted
abbrev pub invariant-loop-column : goal.invariant-loop-column
invariant-loop-column l = record {
  long : length l.cells ≡ length l.fn.cells;
  painted : (x : ℕ) → get_or l.cells x space ≡ changed_to (λ x c. over l.fn.pane c x l.fn.line) space l.fn.pane.area.x l.column l.fn.cells x;
}
