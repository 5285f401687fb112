use Rattle.std.proofs.Common.{◌≡◌, ◌≤◌, ◌-◌}
use Rattle.std.specs.Prelude.{◌↔◌}
use Rattle.tks_disk.specs.DiskModel.{Rests}
use Rattle.tks_journal.proofs.front.front_with_header.Given as goal

abbrev pub invariant-loop-bytes : goal.invariant-loop-bytes
invariant-loop-bytes g l = record {
  within : l.count ≤ l.all;
  honesty : g.D.Disk.honest l.fn.disk ↔ g.D.Disk.honest l.disk;
  failures : g.D.Disk.failures l.disk ≡ g.D.Disk.failures l.fn.disk;
  rests : g.D.Disk.honest l.fn.disk → Rests (g.D.Disk.view l.fn.disk) (g.D.Disk.view l.disk);
}

abbrev pub decreases-loop-bytes : goal.decreases-loop-bytes
decreases-loop-bytes g l = l.all - l.count
