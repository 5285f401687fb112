use Rattle.std.proofs.Common.{length}
use Rattle.tks_vars.specs.Few.{AreApart}
use Rattle.tks_vars.proofs.few.are_apart.Given as goal

-- if no two of those that are left have one name, no two of all have
abbrev pub invariant-loop-entry : goal.invariant-loop-entry
invariant-loop-entry l = AreApart l.rest → AreApart l.entries

abbrev pub decreases-loop-entry : goal.decreases-loop-entry
decreases-loop-entry l = length l.rest
