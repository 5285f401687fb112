use Rattle.std.proofs.Common.{◌≡◌, drop}
use Rattle.std.specs.List.{list_all}
use Rattle.tks_limits.specs.Within as kinds
use Rattle.tks_opt.specs.Options.{values_in_order}
use Rattle.tks_limits.proofs.windows.values_fit.Given as goal

-- the others decide
abbrev pub invariant-loop-index : goal.invariant-loop-index
invariant-loop-index l = list_all (kinds.fits l.limits) (drop l.index (values_in_order l.options)) ≡ list_all (kinds.fits l.fn.limits) (values_in_order l.fn.options)
