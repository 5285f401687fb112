use Rattle.std.proofs.Common.{◌≡◌, ◌-◌}
use Rattle.std.specs.Prelude.{◌↔◌, IfErr}
use Rattle.tks_journal.specs.Loading.{behind}
use Rattle.tks_journal.specs.Opening.{Unwritten}
use Rattle.tks_journal.specs.Sides.{frames}
use Rattle.tks_durable.specs.Crash.{OfBytes}
use Rattle.tks_durable.specs.Opening.{IsOwn, with_bodies}
use Rattle.tks_durable.proofs.restore.replay_all.Given as goal

abbrev pub invariant-loop-next : goal.invariant-loop-next
invariant-loop-next g l =
    let m = g.M.Machine.meaning l.machine in
    let view = g.D.Disk.view in
    let old = l.fn.left in
    record {
      same : g.D.Disk.honest old.disk → with_bodies m old.format l.so_far (frames (behind l.left.live l.left.at (view l.left.disk).reads)) ≡ with_bodies m old.format l.fn.start (frames (behind old.live old.at (view old.disk).reads));
      own : IsOwn m l.fn.start → IsOwn m l.so_far;
      bytes : IfErr l.fn.start OfBytes → IfErr l.so_far OfBytes;
      live : l.left.live ≡ old.live;
      format : l.left.format ≡ old.format;
      generation : l.left.generation ≡ old.generation;
      unwritten : g.D.Disk.honest old.disk → Unwritten (view old.disk) (view l.left.disk);
      honesty : g.D.Disk.honest old.disk ↔ g.D.Disk.honest l.left.disk;
      count : g.D.Disk.failures l.left.disk ≡ g.D.Disk.failures old.disk;
    }

abbrev pub decreases-loop-next : goal.decreases-loop-next
decreases-loop-next g l = l.left.len - l.left.at
