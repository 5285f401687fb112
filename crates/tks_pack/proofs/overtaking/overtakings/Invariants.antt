use Rattle.std.proofs.Common.{◌-◌}
use Rattle.tks_pack.specs.Notes.{AreOvertaken}
use Rattle.tks_pack.proofs.overtaking.overtakings.Given as goal

abbrev pub invariant-loop-behind : goal.invariant-loop-behind
invariant-loop-behind l = AreOvertaken (l.last - l.behind) l.notes l.overtakings.items
