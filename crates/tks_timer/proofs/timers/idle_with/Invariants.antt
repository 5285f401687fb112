use Rattle.std.proofs.Common.{◌≡◌}
use Rattle.tks_timer.specs.After.{idle_with, lesser}
use Rattle.tks_timer.proofs.timers.idle_with.Given as goal

-- the least so far, and the least of those further on, make the least of all
abbrev pub invariant-loop-idle : goal.invariant-loop-idle
invariant-loop-idle l = lesser l.least (idle_with l.script l.idle-iterator) ≡ idle_with l.script l.fn.idles
