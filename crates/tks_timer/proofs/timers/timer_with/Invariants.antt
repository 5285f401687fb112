use Rattle.std.proofs.Common.{◌≡◌}
use Rattle.tks_timer.specs.After.{timer_with, lesser}
use Rattle.tks_timer.proofs.timers.timer_with.Given as goal

-- the least so far, and the least of those further on, make the least of all
abbrev pub invariant-loop-timer : goal.invariant-loop-timer
invariant-loop-timer l = lesser l.least (timer_with l.script l.timer-iterator) ≡ timer_with l.script l.fn.timers
