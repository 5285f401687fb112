use Rattle.std.proofs.Common.{None, take}
use Rattle.tks_spelling.specs.Spelling.{Rise}
use Rattle.tks_spelling.proofs.names.are_names.Given as goal

abbrev pub invariant-loop-index : goal.invariant-loop-index
invariant-loop-index l = Rise (λ name. name) None (take l.index l.names)
