use Rattle.std.proofs.Common.{◌≡◌, drop}
use Rattle.std.specs.List.{list_all}
use Rattle.tks_limits.specs.Within as kinds
use Rattle.tks_limits.proofs.windows.each_path_fits.Given as goal

-- the others decide
abbrev pub invariant-loop-index : goal.invariant-loop-index
invariant-loop-index l = list_all (λ w. kinds.fits l.limits w.path) (drop l.index l.tree.windows) ≡ list_all (λ w. kinds.fits l.fn.limits w.path) l.fn.tree.windows
