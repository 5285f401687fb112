-- A disk of two files. No contract says what a file holds, so nothing is told of what these read as or may be left with.
use Rattle.std.specs.Prelude.{[]}
use Rattle.tks_disk.specs.DiskModel.{View}

-- a view that tells nothing
abbrev pub untold : View
untold = record {
  reads = record { a = []; b = [] };
  may_leave = λ _. Unit {0};
  clock = 0;
  left_since = λ _ _. Unit {0};
}

-- No file is shown to keep to the laws of a disk. That the system's files do is what a reader of the theorems supposes.
abbrev pub ShownHonest : Type 0
ShownHonest = ⊥
