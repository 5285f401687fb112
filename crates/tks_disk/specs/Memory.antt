-- A disk in memory, and what contracts see of it as a disk.
use Rattle.std.specs.Prelude.{◌≡◌, ◌⊎◌, ℕ, ◌≤◌, List, [], ◌∷◌, length}
use Rattle.std.proofs.Common.{inl, inr, arith}
use Rattle.tks_disk.specs.DiskModel.{Images, View}
use Rattle.tks_disk.specs.MemorySide.{settled, SideLeaves, SideWritten}
use Rattle.tks_disk.specs.declared.disk.Side.{Side}
use Rattle.tks_disk.specs.declared.disk.Side.TheVariants.{A, B}
use Rattle.tks_disk.specs.declared.sides.Sides.{Sides}

-- what two sides read as
abbrev pub images : Sides → Images
images sides = record { a = sides.a.bytes; b = sides.b.bytes }

-- what a crash may leave of two sides
abbrev pub BothLeave : Sides → Images → Type 0
BothLeave sides i = SideLeaves sides.a i.a × SideLeaves sides.b i.b

-- what two sides read as is one of the images that a crash may leave of them
abbrev pub AreConsistent : Sides → Type 0
AreConsistent sides = BothLeave sides (images sides)

-- one side was written, the other is as it was
abbrev pub SidesWritten : Side → ℕ → List ℕ → Sides → Sides → Type 0
SidesWritten A at bytes old new = SideWritten at bytes old.a new.a × (new.b ≡ old.b)
SidesWritten B at bytes old new = SideWritten at bytes old.b new.b × (new.a ≡ old.a)

-- the sides, with all of this one synced
abbrev pub with_settled : Side → Sides → Sides
with_settled A sides = record sides { a = settled sides.a.bytes }
with_settled B sides = record sides { b = settled sides.b.bytes }

-- its sides now, the sides as they were at each moment before, the latest first, and how many calls have failed
pub record MemoryState : Type 0 where
  pub sides : Sides
  pub past : List Sides
  pub failures : ℕ

-- what a crash at one of these moments, from t on, might have left
abbrev pub HadLeft : ℕ → List Sides → Images → Type 0
HadLeft t [] i = ⊥
HadLeft t (sides ∷ past) i = ((t ≤ length past) × BothLeave sides i) ⊎ HadLeft t past i

-- a disk in memory, seen as a disk: the clock counts the moments before
abbrev pub memory_view : MemoryState → View
memory_view m = record {
  reads = images m.sides;
  may_leave = BothLeave m.sides;
  clock = length m.past;
  left_since = λ t i. BothLeave m.sides i ⊎ HadLeft t m.past i;
}

-- a disk in memory with these bytes, all of them synced, and no past
abbrev pub fresh : List ℕ → List ℕ → MemoryState
fresh a b = record { sides = record { a = settled a; b = settled b }; past = []; failures = 0 }

none_after : (t : ℕ) (past : List Sides) (i : Images) → length past ≤ t → HadLeft t past i → ⊥
none_after t [] i le had = had
none_after t (sides ∷ past) i le (inl had) = omega (arith, had.0)
none_after t (sides ∷ past) i le (inr had) = none_after t past i (omega arith) had

-- since the present moment there is no other
pub only_present : (sides : Sides) (past : List Sides) (i : Images) → BothLeave sides i ⊎ HadLeft (length past) past i → BothLeave sides i
only_present sides past i (inl now) = now
only_present sides past i (inr had) = absurd (none_after (length past) past i (omega arith) had)

had_earlier : (t u : ℕ) (past : List Sides) (i : Images) → t ≤ u → HadLeft u past i → HadLeft t past i
had_earlier t u [] i le had = had
had_earlier t u (sides ∷ past) i le (inl had) = inl (omega (arith, had.0), had.1)
had_earlier t u (sides ∷ past) i le (inr had) = inr (had_earlier t u past i le had)

-- the moments since a later one are among those since an earlier one
pub since_earlier : (t u : ℕ) (sides : Sides) (past : List Sides) (i : Images) → t ≤ u → BothLeave sides i ⊎ HadLeft u past i → BothLeave sides i ⊎ HadLeft t past i
since_earlier t u sides past i le (inl now) = inl now
since_earlier t u sides past i le (inr had) = inr (had_earlier t u past i le had)
