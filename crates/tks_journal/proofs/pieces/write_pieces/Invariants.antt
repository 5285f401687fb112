use Rattle.std.proofs.Common.{◌≡◌, ◌≤◌, ◌+◌, ◌-◌, ◌++◌, List, ℕ, length, take}
use Rattle.std.specs.Prelude.{◌↔◌}
use Rattle.tks_disk.specs.DiskModel.{on}
use Rattle.tks_journal.specs.Staging.{AllBegin, KeepsFront}
use Rattle.tks_journal.proofs.pieces.write_pieces.Given as goal

abbrev pub invariant-loop-done : goal.invariant-loop-done
invariant-loop-done g l =
    let view = g.D.Disk.view in
    record {
      within : l.done ≤ length l.bytes;
      honesty : g.D.Disk.honest l.fn.disk ↔ g.D.Disk.honest l.disk;
      count : g.D.Disk.failures l.disk ≡ g.D.Disk.failures l.fn.disk;
      front : (stem other : List ℕ) → g.D.Disk.honest l.fn.disk → length stem ≤ l.at → AllBegin l.side stem other (view l.fn.disk) → KeepsFront l.side stem other (view l.fn.disk) (view l.disk);
      written : g.D.Disk.honest l.fn.disk → l.at ≤ length (on l.side (view l.fn.disk).reads) →
          take (l.at + l.done) (on l.side (view l.disk).reads) ≡ take l.at (on l.side (view l.fn.disk).reads) ++ take l.done l.bytes;
    }

abbrev pub decreases-loop-done : goal.decreases-loop-done
decreases-loop-done g l = length l.bytes - l.done
