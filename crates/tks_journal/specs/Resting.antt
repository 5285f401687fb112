-- What holds of a disk between two calls of a journal.
use Rattle.std.specs.Prelude.{◌≡◌, ◌≢◌, ◌<◌, ◌⊎◌, ℕ, List, [], ◌∷◌, ◌++◌, length, take, slice_index, Option, Some, None, Result, Ok, Bool, true, false, nat_lt}
use Rattle.tks_disk.specs.DiskModel.{View, Images, on, beside}
use Rattle.tks_disk.specs.declared.disk.Side.{Side}
use Rattle.tks_spelling.specs.declared.format.Format.{Format}
use Rattle.tks_spelling.specs.declared.format.Format.TheVariants.{Two}
use Rattle.tks_spelling.specs.declared.header.Header.{Header}
use Rattle.tks_journal.specs.Moments.{IsSettled}
use Rattle.tks_journal.specs.declared.fault.SideFault.{SideFault}
use Rattle.tks_journal.specs.Sides.{Face, closed, unknown, broken, intact, face, is_closed, Kept, holds, with_frames, live_of, pair, framed, AllShort}

-- Whatever frames are put behind the closed gate at this place, and whatever stands behind the closed gate after them, the
-- sides hold what they hold now, and these frames.
pub record Carries (live : Side) (gate : ℕ) (reads : Images) : Type 0 where
  pub carries : (more : List (List ℕ)) (shut : ℕ) (rest : List ℕ) → AllShort more → shut ≢ 1
      → holds (pair live (take gate (on live reads) ++ (framed more ++ shut ∷ rest)) (beside live reads)) ≡ with_frames more (holds reads)

-- all is synced, with a closed gate at this place of the live side
pub record AtRest (view : View) (live : Side) (gate : ℕ) : Type 0 where
  pub settled : IsSettled view
  pub within : gate < length (on live view.reads)
  pub shut : slice_index (on live view.reads) gate ≢ 1
  pub carries : Carries live gate view.reads

-- a disk at rest, of which this side is live, in this format and generation
pub record IsLive (view : View) (live : Side) (format : Format) (generation gate : ℕ) : Type 0 where
  pub at_rest : AtRest view live gate
  pub is_live : live_of (holds view.reads) ≡ Some (live, format, generation)

-- what is read holds this, and so does all that a crash now may leave
pub record AllHold (view : View) (kept : Result (Option Kept) SideFault) : Type 0 where
  pub reads : holds view.reads ≡ kept
  pub images : (i : Images) → view.may_leave i → holds i ≡ kept

-- all is synced, and both sides are closed
pub record HoldsNothing (view : View) : Type 0 where
  pub settled : IsSettled view
  pub nothing : holds view.reads ≡ Ok None

-- the sides hold the one or the other
abbrev pub OneOf : Result (Option Kept) SideFault → Result (Option Kept) SideFault → Images → Type 0
OneOf before after i = (holds i ≡ before) ⊎ (holds i ≡ after)

-- Does this side give way to another one of this generation?
abbrev pub gives_way : ℕ → Face → Bool
gives_way generation closed = true
gives_way generation unknown = false
gives_way generation broken = false
gives_way generation (intact format header rest) = nat_lt header.generation generation

-- a side that can be begun anew, in this generation
pub record Vacant (side : Side) (generation : ℕ) (reads : Images) : Type 0 where
  -- what is held doesn't depend on it while it is closed
  pub ignored : (shut : List ℕ) → is_closed shut ≡ true → holds (pair side shut (beside side reads)) ≡ holds reads
  -- the other side gives way to it
  pub yields : gives_way generation (face (beside side reads)) ≡ true

-- what a side holds that was just begun, in the newest format
abbrev pub begun_as : Side → Header → List ℕ → Result (Option Kept) SideFault
begun_as live header world = Ok (Some (record { live = live; format = Two; header = header; world = world; bodies = [] }))
