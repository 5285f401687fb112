use Rattle.std.proofs.Common.{◌≡◌}
use Rattle.std.specs.List.{list_all}
use Rattle.tks_limits.specs.Within as kinds
use Rattle.tks_limits.proofs.events.each_binding_fits.Given as goal

-- the others decide
abbrev pub invariant-loop-binding : goal.invariant-loop-binding
invariant-loop-binding l = list_all (kinds.binding_fits l.limits) l.binding-iterator ≡ list_all (kinds.binding_fits l.fn.limits) l.fn.bindings
