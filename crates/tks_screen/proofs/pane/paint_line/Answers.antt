use Rattle.std.proofs.Common.{subst, ◌+◌, ◌≤◌, min, arith}
use Rattle.tks_screen.proofs.Painting.{line_painted}
use Rattle.tks_screen.proofs.pane.paint_line.Goals as goal

pub returns : goal.returns
returns c =
    line_painted c.args.pane.now c.args.line c.loop-column.column c.args.cells.now c.loop-column.cells c.loop-column.invariant.long c.loop-column.invariant.painted
    (subst (λ n. min (c.args.pane.now.area.x + c.args.pane.now.area.width) n ≤ c.loop-column.column) c.len.ensures.value (omega arith))
