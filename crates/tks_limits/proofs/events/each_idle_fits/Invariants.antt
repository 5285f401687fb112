use Rattle.std.proofs.Common.{◌≡◌}
use Rattle.std.specs.List.{list_all}
use Rattle.tks_limits.specs.Within as kinds
use Rattle.tks_limits.proofs.events.each_idle_fits.Given as goal

-- the others decide
abbrev pub invariant-loop-idle : goal.invariant-loop-idle
invariant-loop-idle l = list_all (λ i. kinds.fits l.limits i.script) l.idle-iterator ≡ list_all (λ i. kinds.fits l.fn.limits i.script) l.fn.idles
