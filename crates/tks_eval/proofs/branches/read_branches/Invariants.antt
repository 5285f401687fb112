use Rattle.std.proofs.Common.{◌≡◌, [], length}
use Rattle.tks_eval.specs.Branches.{Condition, branches}
use Rattle.tks_eval.proofs.branches.read_branches.Given as goal

abbrev pub invariant-test : goal.invariant-test
invariant-test l = branches Condition l.tests.items l.rest ≡ branches Condition [] l.fn.words

abbrev pub decreases-test : goal.decreases-test
decreases-test l = length l.rest
