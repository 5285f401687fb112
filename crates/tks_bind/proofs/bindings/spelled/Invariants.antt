use Rattle.std.proofs.Common.{◌≡◌, ◌++◌}
use Rattle.tks_bind.specs.Binding.{spelled}
use Rattle.tks_bind.proofs.bindings.spelled.Given as goal

-- those so far, and those further on, are all
abbrev pub invariant-loop-binding : goal.invariant-loop-binding
invariant-loop-binding l = l.found ++ spelled l.tag l.binding-iterator ≡ spelled l.tag l.fn.bindings
