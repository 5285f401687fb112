-- What contracts see of a disk of two sides, and what its calls do to that. The rules are this project's own.
use Rattle.std.specs.Prelude.{◌<◌, ◌≡◌, ◌⊎◌, ℕ, ◌+◌, ◌-◌, ◌≤◌, min, max, List, length, take, drop, slice_index, Result, MatchResult, OnOk, OnErr}
use Rattle.tks_disk.specs.declared.disk.Side.{Side}
use Rattle.tks_disk.specs.declared.disk.Side.TheVariants.{A, B}

-- the bytes of both sides
pub record Images : Type 0 where
  pub a : List ℕ
  pub b : List ℕ

-- the bytes of this side
abbrev pub on : Side → Images → List ℕ
on A i = i.a
on B i = i.b

-- the bytes of the other side
abbrev pub beside : Side → Images → List ℕ
beside A i = i.b
beside B i = i.a

-- these images, with these bytes on this side
abbrev pub with_side : Side → List ℕ → Images → Images
with_side A bytes i = record i { a = bytes }
with_side B bytes i = record i { b = bytes }

-- what contracts see of a disk
pub record View : Type 1 where
  -- what its sides read as
  pub reads : Images
  -- what a crash at this moment may leave
  pub may_leave : Images → Type 0
  -- a number that doesn't fall
  pub clock : ℕ
  -- what a crash at some moment from that one on might have left, within a call or between two
  pub left_since : ℕ → Images → Type 0

-- Time goes on: a crash since then might have left what it might have left before, or what it may leave now.
pub record Elapses (old new : View) : Type 0 where
  pub later : old.clock ≤ new.clock
  pub nothing_else : (t : ℕ) (i : Images) → t ≤ old.clock → new.left_since t i → old.left_since t i ⊎ new.may_leave i
  pub keeps : (t : ℕ) (i : Images) → t ≤ old.clock → old.left_since t i → new.left_since t i

-- a call that changes nothing
pub record Rests (old new : View) : Type 0 where
  pub same : new.reads ≡ old.reads
  pub crash : (i : Images) → new.may_leave i → old.may_leave i
  pub still : (i : Images) → old.may_leave i → new.may_leave i
  pub time : Elapses old new

-- n bytes at `at` are torn: any bytes in the range and past the old end, the others stay, and any length between
pub record Torn (at n : ℕ) (old new : List ℕ) : Type 0 where
  pub no_shorter : length old ≤ length new
  pub no_longer : length new ≤ max (length old) (at + n)
  pub below : (k : ℕ) → k < length old → k < at → slice_index new k ≡ slice_index old k
  pub above : (k : ℕ) → k < length old → at + n ≤ k → slice_index new k ≡ slice_index old k

-- a range of this side is torn, and the other side is as it was
pub record TornOn (side : Side) (at n : ℕ) (old new : Images) : Type 0 where
  pub torn : Torn at n (on side old) (on side new)
  pub other : beside side new ≡ beside side old

-- the bytes are there, and a gap before them reads 0
pub record Holds (at : ℕ) (bytes old new : List ℕ) : Type 0 where
  pub size : length new ≡ max (length old) (at + length bytes)
  pub each : (k : ℕ) → k < length bytes → slice_index new (at + k) ≡ slice_index bytes k
  pub gap : (k : ℕ) → length old ≤ k → k < at → slice_index new k ≡ 0

-- what a write does, whether it succeeds or not
pub record Writes {E : Type 0} (side : Side) (at : ℕ) (bytes : List ℕ) (result : Result (Unit {0}) E) (old new : View) : Type 0 where
  -- a write that succeeded puts its bytes into what its side reads
  pub written : OnOk result (Holds at bytes (on side old.reads) (on side new.reads))
  -- nothing else that is read changes; where the write failed, its range may
  pub torn : TornOn side at (length bytes) old.reads new.reads
  -- a crash leaves at worst its range torn
  pub crash : (i : Images) → new.may_leave i → (d : Images) × old.may_leave d × TornOn side at (length bytes) d i
  -- and until it is synced, it may leave any of that
  pub unsynced : OnOk result ((d i : Images) → old.may_leave d → TornOn side at (length bytes) d i → new.may_leave i)
  pub time : Elapses old new

-- what a sync does, whether it succeeds or not
pub record Syncs {E : Type 0} (side : Side) (result : Result (Unit {0}) E) (old new : View) : Type 0 where
  pub same : new.reads ≡ old.reads
  -- after a sync that succeeded, a crash leaves of this side what it reads as
  pub durable : OnOk result ((i : Images) → new.may_leave i → on side i ≡ on side old.reads)
  -- and of the other side what it might have left before
  pub others : OnOk result ((d : Images) → old.may_leave d → new.may_leave (with_side side (on side old.reads) d))
  pub crash : (i : Images) → new.may_leave i → old.may_leave i
  -- a sync that failed changes nothing of what a crash may leave
  pub failed : OnErr result ((i : Images) → old.may_leave i → new.may_leave i)
  pub time : Elapses old new

-- these bytes were read at `at`: all that are there and fit
pub record ReadsAt (at n : ℕ) (side old new : List ℕ) : Type 0 where
  pub count : n ≡ min (length old) (length side - at)
  pub bytes : take n new ≡ take n (drop at side)
  pub rest : drop n new ≡ drop n old

-- a failed call raises the count of failures, and no other does
abbrev pub Counts : {T E : Type 0} → Result T E → ℕ → ℕ → Type 0
Counts result old new = MatchResult result (λ _. new ≡ old) (λ _. old < new)
