use Rattle.std.proofs.Common.{rules}
use Rattle.tks_timer.proofs.timers.Timers.ids.Goals as goal

pub returns-clause-rising : goal.returns-clause-rising
returns-clause-rising = search rules
