-- How far a disk was read, and what contracts see of that.
use Rattle.std.specs.Prelude.{◌≡◌, ◌≢◌, ◌<◌, ◌≤◌, ◌+◌, ℕ, Bool, List, [], ◌∷◌, ◌++◌, length, take, drop, slice_index, Option, Some, None, Result, Err}
use Rattle.tks_spelling.specs.declared.format.Format.{Format}
use Rattle.tks_spelling.specs.declared.header.Header.{Header}
use Rattle.tks_disk.specs.DiskModel.{View, Images, on, beside}
use Rattle.tks_disk.specs.declared.disk.Side.{Side}
use Rattle.tks_journal.specs.Moments.{IsSettled}
use Rattle.tks_journal.specs.Sides.{size_at, frames, Kept, content, holds, live_of, with_frames, pair}
use Rattle.tks_journal.specs.declared.fault.SideFault.{SideFault}
use Rattle.tks_journal.specs.declared.fault.SideFault.TheVariants.{Damaged}

-- a disk whose live side and header are known, and where on it the world begins
pub record StoredState (D : Type 0) : Type 0 where
  pub disk : D
  pub live : Side
  pub format : Format
  pub header : Header
  pub at : ℕ
  -- how many bytes the live side has
  pub len : ℕ

-- a disk whose world was read, and how far its frames were
pub record FramesState (D : Type 0) : Type 0 where
  pub disk : D
  pub live : Side
  pub format : Format
  pub generation : ℕ
  pub at : ℕ
  pub len : ℕ
  -- whether the closed gate behind the last frame was met
  pub ended : Bool

-- the bytes of a side from this place on
abbrev pub behind : Side → ℕ → Images → List ℕ
behind live at reads = drop at (on live reads)

-- these images, with these bytes from this place on
abbrev pub with_behind : Side → ℕ → List ℕ → Images → Images
with_behind live at bytes reads = pair live (take at (on live reads) ++ bytes) (beside live reads)

-- all is synced, and whatever stands from this place on is read as what stands behind this header, in this format
pub record StoredAt (view : View) (live : Side) (format : Format) (header : Header) (at len : ℕ) : Type 0 where
  pub settled : IsSettled view
  pub size : len ≡ length (on live view.reads)
  pub within : at ≤ len
  pub passes : (bytes : List ℕ) → holds (with_behind live at bytes view.reads) ≡ content live format header bytes

-- what was held before, and these frames too, unless there is none
abbrev pub extended : Result (Option Kept) SideFault → Option (List (List ℕ)) → Result (Option Kept) SideFault
extended before None = Err Damaged
extended before (Some more) = with_frames more before

-- what the sides would hold if a closed gate stood at this place
abbrev pub so_far : Side → ℕ → Images → Result (Option Kept) SideFault
so_far live at reads = holds (with_behind live at (0 ∷ []) reads)

-- all is synced, and whatever stands from this place on is read as frames behind those so far
pub record FramesAt (view : View) (live : Side) (format : Format) (generation at len : ℕ) : Type 0 where
  pub settled : IsSettled view
  pub size : len ≡ length (on live view.reads)
  pub within : at ≤ len
  pub is_live : live_of (so_far live at view.reads) ≡ Some (live, format, generation)
  pub passes : (bytes : List ℕ) → holds (with_behind live at bytes view.reads) ≡ extended (so_far live at view.reads) (frames bytes)

-- a closed gate stands at this place
pub record ShutAt (live : Side) (at : ℕ) (reads : Images) : Type 0 where
  pub there : at < length (on live reads)
  pub shut : slice_index (on live reads) at ≢ 1

-- a whole frame with this body stands at this place
pub record FrameIs (bytes : List ℕ) (at : ℕ) (body : List ℕ) : Type 0 where
  pub opens : slice_index bytes at ≡ 1
  pub size : size_at (drop (at + 1) bytes) ≡ length body
  pub body_is : body ≡ take (length body) (drop (at + 5) bytes)
