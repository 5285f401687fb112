use Rattle.tks_timer.proofs.Ordering.{along_all}
use Rattle.tks_timer.proofs.order.Order.of.Goals as goal

pub loop-timer-init : goal.loop-timer-init
loop-timer-init c = rw (c.new-order.ensures, c.into_iter-timer-iterator.ensures.into_iter_gives, c.iter-timer-items.ensures) (along_all c.args.timers.now)
