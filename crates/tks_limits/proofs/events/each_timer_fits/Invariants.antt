use Rattle.std.proofs.Common.{◌≡◌}
use Rattle.std.specs.List.{list_all}
use Rattle.tks_limits.specs.Within as kinds
use Rattle.tks_limits.proofs.events.each_timer_fits.Given as goal

-- the others decide
abbrev pub invariant-loop-timer : goal.invariant-loop-timer
invariant-loop-timer l = list_all (λ t. kinds.fits l.limits t.script) l.timer-iterator ≡ list_all (λ t. kinds.fits l.fn.limits t.script) l.fn.timers
