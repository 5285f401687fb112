use Rattle.std.proofs.Common.{◌-◌, length}
use Rattle.tks_pack.proofs.Overtakes.{OneOf, Until}
use Rattle.tks_pack.proofs.overtaking.first_overtaking.Given as goal

abbrev pub invariant-loop-by : goal.invariant-loop-by
invariant-loop-by l = record {
  one : OneOf l.index l.by l.notes;
  until : Until l.index l.by l.from l.notes;
}

abbrev pub decreases-loop-by : goal.decreases-loop-by
decreases-loop-by l = length l.notes - l.by
