-- One side of a disk in memory, and what a crash makes of it.
use Rattle.std.specs.Prelude.{◌<◌, ◌≡◌, ℕ, ◌+◌, ◌≤◌, nat_le, nat_lt, Bool, false, ◌&&◌, ◌||◌, if◌then◌else◌, List, [], ◌∷◌, ◌++◌, length, map, slice_index}
use Rattle.std.specs.List.{range_with_len}
use Rattle.tks_disk.specs.DiskModel.{Torn, Holds}
use Rattle.tks_disk.specs.declared.left.Left.{Left}
use Rattle.tks_disk.specs.declared.left.Left.TheVariants.{Old, New, Fill}
use Rattle.tks_disk.specs.declared.span.Span.{Span}

-- one side: what it reads as, what it was when it was synced last, and the ranges written since
pub record SideState : Type 0 where
  pub bytes : List ℕ
  pub synced : List ℕ
  pub unsynced : List Span

-- a side that is all synced
abbrev pub settled : List ℕ → SideState
settled bytes = record { bytes = bytes; synced = bytes; unsynced = [] }

-- this place is in the range
abbrev pub within : Span → ℕ → Bool
within s k = nat_le s.at k && nat_lt k (s.at + s.len)

-- this place is in one of the ranges
abbrev pub touched : List Span → ℕ → Bool
touched [] k = false
touched (s ∷ spans) k = within s k || touched spans k

-- what a crash may leave of a side: what was synced, but for the ranges written since, and any length between
pub record SideLeaves (side : SideState) (left : List ℕ) : Type 0 where
  pub no_shorter : length side.synced ≤ length left
  pub no_longer : length left ≤ length side.bytes
  pub kept : (k : ℕ) → k < length side.synced → touched side.unsynced k ≡ false → slice_index left k ≡ slice_index side.synced k

-- a side that was written, and not synced since
pub record SideWritten (at : ℕ) (bytes : List ℕ) (old new : SideState) : Type 0 where
  pub holds : Holds at bytes old.bytes new.bytes
  pub torn : Torn at (length bytes) old.bytes new.bytes
  pub synced : new.synced ≡ old.synced
  pub noted : new.unsynced ≡ old.unsynced ++ record { at = at; len = length bytes } ∷ []

-- the bytes, with this one in each place of the ranges
abbrev pub filled : ℕ → List Span → List ℕ → List ℕ
filled byte spans bytes = map (λ k. if touched spans k then byte else slice_index bytes k) (range_with_len 0 (length bytes))

-- what is left of a side where this is asked for
abbrev pub left_of : Left → SideState → List ℕ
left_of Old side = side.synced
left_of New side = side.bytes
left_of (Fill byte) side = filled byte side.unsynced side.bytes
