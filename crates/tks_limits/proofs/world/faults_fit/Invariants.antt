use Rattle.std.proofs.Common.{◌≡◌}
use Rattle.std.specs.List.{list_all}
use Rattle.tks_limits.specs.Within as kinds
use Rattle.tks_limits.proofs.world.faults_fit.Given as goal

-- the others decide
abbrev pub invariant-loop-text : goal.invariant-loop-text
invariant-loop-text l = list_all (kinds.fits l.limits) l.text-iterator ≡ list_all (kinds.fits l.fn.limits) l.fn.faults
