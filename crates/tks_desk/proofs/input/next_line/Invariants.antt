-- The line that was begun goes on, and each of its bytes was paid for.
use Rattle.tks_desk.proofs.Lines.{LineBegun}
use Rattle.tks_desk.proofs.input.next_line.Given as goal

abbrev pub invariant-loop-left : goal.invariant-loop-left
invariant-loop-left g l = LineBegun (g.R.Read.remaining l.fn.reader) (g.R.Read.remaining l.reader) l.line l.fn.left l.left

abbrev pub decreases-loop-left : goal.decreases-loop-left
decreases-loop-left g l = l.left
