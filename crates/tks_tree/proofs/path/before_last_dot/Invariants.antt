use Rattle.std.proofs.Common.{◌≡◌, length}
use Rattle.tks_tree.specs.Path.{before_last_dot}
use Rattle.tks_tree.proofs.path.before_last_dot.Given as goal

abbrev pub invariant-loop-byte : goal.invariant-loop-byte
invariant-loop-byte l = before_last_dot l.front ≡ before_last_dot l.fn.path

abbrev pub decreases-loop-byte : goal.decreases-loop-byte
decreases-loop-byte l = length l.front
