use Rattle.std.proofs.Common.{length}
use Rattle.tks_event.proofs.equality.+each_is.Given as goal

abbrev pub decreases-each_is : goal.decreases-each_is
decreases-each_is l = length l.patterns.now
