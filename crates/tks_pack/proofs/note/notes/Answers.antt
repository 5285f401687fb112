use Rattle.std.proofs.Common.{arith}
use Rattle.tks_pack.proofs.Noted.{one_noted}
use Rattle.tks_pack.proofs.note.notes.Goals as goal

pub loop-stretch-preserved : goal.loop-stretch-preserved
loop-stretch-preserved c = record {
  so_far = one_noted c.loop-stretch.note c.at.result c.past-note.result c.args.stretches.now c.loop-stretch.stretch-index _ c.loop-stretch.notes.items _ _
      c.loop-stretch-test.true c.at.ensures c.past-note.ensures.value c.in_ok-push.ensures.items c.loop-stretch.invariant.so_far;
  asked = omega arith;
  sharing = omega arith;
}
