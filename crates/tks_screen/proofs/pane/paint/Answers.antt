use Rattle.std.proofs.Common.{arith}
use Rattle.tks_screen.proofs.Painting.{lines_painted}
use Rattle.tks_screen.proofs.pane.paint.Goals as goal

pub returns : goal.returns
returns c = lines_painted c.args.pane.now c.loop-line.line c.args.cells.now.items c.loop-line.cells.items c.loop-line.invariant.long c.loop-line.invariant.painted (omega arith)
