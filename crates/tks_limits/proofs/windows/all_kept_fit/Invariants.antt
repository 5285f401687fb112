use Rattle.std.proofs.Common.{◌≡◌}
use Rattle.std.specs.List.{list_all}
use Rattle.tks_limits.specs.Within as kinds
use Rattle.tks_limits.proofs.windows.all_kept_fit.Given as goal

-- the others decide
abbrev pub invariant-loop-one : goal.invariant-loop-one
invariant-loop-one l = list_all (kinds.kept_fits l.limits) l.one-iterator ≡ list_all (kinds.kept_fits l.fn.limits) l.fn.kept
