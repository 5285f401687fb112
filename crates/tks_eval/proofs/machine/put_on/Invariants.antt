use Rattle.std.proofs.Common.{◌≡◌, ◌++◌, length}
use Rattle.tks_eval.proofs.machine.put_on.Given as goal

abbrev pub invariant-loop-frame : goal.invariant-loop-frame
invariant-loop-frame l = l.frames.items ++ l.stack ≡ l.fn.frames.items ++ l.fn.stack

abbrev pub decreases-loop-frame : goal.decreases-loop-frame
decreases-loop-frame l = length l.frames.items
