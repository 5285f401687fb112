use Rattle.std.proofs.Common.{◌≡◌, ◌++◌, drop}
use Rattle.tks_tcl.specs.Variables.{flat}
use Rattle.tks_tcl.proofs.growing.push_all.Given as goal

abbrev pub invariant-loop-next : goal.invariant-loop-next
invariant-loop-next l = l.text ++ flat (drop l.next-index l.more) ≡ l.fn.text ++ flat l.more
