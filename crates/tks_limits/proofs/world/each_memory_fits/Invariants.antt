use Rattle.std.proofs.Common.{◌≡◌, ◌&&◌}
use Rattle.std.specs.List.{list_all}
use Rattle.tks_limits.specs.Within as kinds
use Rattle.tks_limits.proofs.world.each_memory_fits.Given as goal

-- the others decide
abbrev pub invariant-loop-name : goal.invariant-loop-name
invariant-loop-name l = list_all (λ e. kinds.fits l.limits e.0 && kinds.fits l.limits e.1) l.name-iterator ≡ list_all (λ e. kinds.fits l.fn.limits e.0 && kinds.fits l.fn.limits e.1) l.fn.memories
