use Rattle.std.proofs.Common.{◌≡◌, ℕ, [], length, get_or}
use Rattle.tks_screen.specs.Panes.{over_row}
use Rattle.tks_screen.proofs.Changing.{changed_to}
use Rattle.tks_screen.proofs.pane.paint.Given as goal

-- the lines before are painted
abbrev pub invariant-loop-line : goal.invariant-loop-line
invariant-loop-line l = record {
  long : length l.cells.items ≡ length l.fn.cells.items;
  painted : (y : ℕ) → get_or l.cells.items y [] ≡ changed_to (over_row l.fn.pane) [] l.fn.pane.area.y l.line l.fn.cells.items y;
}
