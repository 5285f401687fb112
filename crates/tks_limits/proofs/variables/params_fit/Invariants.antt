use Rattle.std.proofs.Common.{◌≡◌, ◌&&◌, drop}
use Rattle.std.specs.List.{list_all}
use Rattle.tks_limits.specs.Within as kinds
use Rattle.tks_limits.proofs.variables.params_fit.Given as goal

-- the others decide
abbrev pub invariant-loop-param : goal.invariant-loop-param
invariant-loop-param l = list_all (λ a. kinds.fits l.limits a.name && kinds.default_fits l.limits a.default) (drop l.param-index l.params) ≡ list_all (λ a. kinds.fits l.fn.limits a.name && kinds.default_fits l.fn.limits a.default) l.fn.params
