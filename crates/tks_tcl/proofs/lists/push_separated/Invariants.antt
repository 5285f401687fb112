use Rattle.std.proofs.Common.{◌≡◌, ◌++◌, drop}
use Rattle.tks_tcl.specs.Lists.{separated}
use Rattle.tks_tcl.proofs.lists.push_separated.Given as goal

abbrev pub invariant-loop-next : goal.invariant-loop-next
invariant-loop-next l = l.text ++ separated l.separator (drop l.next-index l.more) ≡ l.fn.text ++ separated l.separator l.more
