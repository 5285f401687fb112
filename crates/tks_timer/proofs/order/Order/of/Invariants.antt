use Rattle.std.proofs.Common.{◌≡◌}
use Rattle.tks_timer.specs.Order.{in_turn}
use Rattle.tks_timer.proofs.Ordering.{along_timers}
use Rattle.tks_timer.proofs.order.Order.of.Given as goal

-- once those further on came in too, all are there
abbrev pub invariant-loop-timer : goal.invariant-loop-timer
invariant-loop-timer l = along_timers l.order l.timer-iterator ≡ in_turn l.fn.timers
