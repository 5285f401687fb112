use Rattle.std.proofs.Common.{◌≡◌, length}
use Rattle.tks_eval.specs.Procedures.{arguments}
use Rattle.tks_eval.proofs.procedures.arguments.Given as goal

abbrev pub invariant-parameter : goal.invariant-parameter
invariant-parameter l = arguments l.given l.parameters l.words ≡ arguments l.fn.given l.fn.parameters l.fn.words

abbrev pub decreases-parameter : goal.decreases-parameter
decreases-parameter l = length l.parameters
