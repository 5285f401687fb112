use Rattle.std.proofs.Common.{◌≡◌, drop}
use Rattle.tks_bind.specs.Tagged.{without_each}
use Rattle.tks_bind.proofs.bindings.Bindings.without_each.Given as goal

-- without those further on too, all are taken away
abbrev pub invariant-loop-binding : goal.invariant-loop-binding
invariant-loop-binding l = without_each (drop l.binding-index l.gone) l.left ≡ without_each l.fn.gone l.fn.self
