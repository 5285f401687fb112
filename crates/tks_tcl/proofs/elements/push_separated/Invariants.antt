use Rattle.std.proofs.Common.{◌≡◌, ◌++◌, drop}
use Rattle.tks_tcl.specs.Lists.{separated}
use Rattle.tks_tcl.proofs.elements.push_separated.Given as goal

abbrev pub invariant-loop-index : goal.invariant-loop-index
invariant-loop-index l = l.text ++ separated l.separator (drop l.index l.list) ≡ l.fn.text ++ separated l.separator (drop l.front l.list)
