-- Bytes that are written behind a closed gate, and the gate's own byte.
use Rattle.std.specs.Prelude.{◌≡◌, ◌≢◌, ◌<◌, ◌⊎◌, ℕ, ◌+◌, Bool, true, false, List, [], ◌++◌, length, take, drop, slice_index}
use Rattle.tks_disk.specs.DiskModel.{View, Images, on, beside}
use Rattle.tks_disk.specs.declared.disk.Side.{Side}
use Rattle.tks_journal.specs.Moments.{LeavesOnly, IsSettled}
use Rattle.tks_journal.specs.Sides.{is_closed}

-- this side begins with these bytes, and the other side is this
pub record Begins (side : Side) (stem other : List ℕ) (i : Images) : Type 0 where
  pub other_side : beside side i ≡ other
  pub front : take (length stem) (on side i) ≡ stem

-- what is read begins so, and so does all that a crash now may leave
pub record AllBegin (side : Side) (stem other : List ℕ) (view : View) : Type 0 where
  pub reads : Begins side stem other view.reads
  pub images : (i : Images) → view.may_leave i → Begins side stem other i

-- and so does all that a crash since may have left
pub record KeepsFront (side : Side) (stem other : List ℕ) (old new : View) : Type 0 where
  pub reads : Begins side stem other new.reads
  pub leaves : LeavesOnly old new (Begins side stem other)

-- all is synced, and these bytes stand behind the first ones of this side
pub record Staged (side : Side) (front : ℕ) (bytes : List ℕ) (old new : View) : Type 0 where
  pub settled : IsSettled new
  pub other_side : beside side new.reads ≡ beside side old.reads
  pub stands : take (front + length bytes) (on side new.reads) ≡ take front (on side old.reads) ++ bytes

-- these images are those, but for the byte at this place of this side
pub record AtGate (side : Side) (place : ℕ) (reads i : Images) : Type 0 where
  pub other_side : beside side i ≡ beside side reads
  pub before : take place (on side i) ≡ take place (on side reads)
  pub after : drop (place + 1) (on side i) ≡ drop (place + 1) (on side reads)
  pub size : length (on side i) ≡ length (on side reads)

-- all is synced, and the gate at this place is open
pub record Opened (side : Side) (place : ℕ) (old new : View) : Type 0 where
  pub settled : IsSettled new
  pub at_gate : AtGate side place old.reads new.reads
  pub is_open : slice_index (on side new.reads) place ≡ 1

-- the other side is as it was, and this one too, or it is closed
pub record Closing (side : Side) (reads i : Images) : Type 0 where
  pub other_side : beside side i ≡ beside side reads
  pub either : (on side i ≡ on side reads) ⊎ (is_closed (on side i) ≡ true)

-- all is synced, and this side has a gate, which is closed
pub record Shut (side : Side) (old new : View) : Type 0 where
  pub settled : IsSettled new
  pub other_side : beside side new.reads ≡ beside side old.reads
  pub some : 0 < length (on side new.reads)
  pub shut : slice_index (on side new.reads) 0 ≢ 1

-- Is a write needed to close a gate? It is where the side is empty, or its gate open.
pub record ClosesBy (answer : Bool) (bytes : List ℕ) : Type 0 where
  pub write : answer ≡ true → (bytes ≡ []) ⊎ (slice_index bytes 0 ≡ 1)
  pub none : answer ≡ false → (0 < length bytes) × (slice_index bytes 0 ≢ 1)
