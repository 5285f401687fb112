use Rattle.std.proofs.Common.{rules}
use Rattle.tks_timer.proofs.timers.lesser.Goals as goal

pub returns-then-y-x : goal.returns-then-y-x
returns-then-y-x = search rules

pub returns-else-y-x : goal.returns-else-y-x
returns-else-y-x = search rules
