use Rattle.std.proofs.Common.{◌≡◌, List, ◌++◌}
use Rattle.tks_bind.specs.declared.binding.Binding.{Binding}
use Rattle.tks_bind.specs.Places.{numbers_of}
use Rattle.tks_bind.proofs.bindings.placed.Given as goal

-- the numbers so far have their places
abbrev pub invariant-loop-binding : goal.invariant-loop-binding
invariant-loop-binding l = (done : List Binding) × (done ++ l.binding-iterator ≡ l.fn.bindings) × (l.places ≡ numbers_of done)
