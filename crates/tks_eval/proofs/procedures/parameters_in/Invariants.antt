use Rattle.std.proofs.Common.{◌≡◌, drop}
use Rattle.tks_eval.specs.Procedures.{parameters, parameters_in}
use Rattle.tks_eval.proofs.procedures.parameters_in.Given as goal

abbrev pub invariant-loop-word : goal.invariant-loop-word
invariant-loop-word l = parameters l.procedure l.parameters (drop l.word-index l.word-items) ≡ parameters_in l.fn.procedure l.fn.text
