use Rattle.std.proofs.Common.{length}
use Rattle.tks_event.proofs.validity.+may_follow.Given as goal

abbrev pub decreases-may_follow : goal.decreases-may_follow
decreases-may_follow l = length l.patterns.now
