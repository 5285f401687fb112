-- The ranges of a tag, as data (text(n), "TAGS"): another way to say which characters have it.
use Rattle.std.specs.Prelude.{◌≡◌, ℕ, ◌+◌, ◌-◌, ◌<◌, ◌≤◌, ◌^◌, ◌||◌, ◌==◌, if◌then◌else◌, nat_le, nat_lt, min, max, Bool, true, false, List, [], ◌∷◌, ◌++◌, length, replicate, Option, Some, None, slice_get}
use Rattle.std.specs.List.{prefix_len, filter}
use Rattle.tks_lines.specs.declared.range.Range.{Range}

-- the ranges of flags that begin at a place; some are of a range that began before
abbrev pub ranges_at : Option ℕ → ℕ → List Bool → List Range
ranges_at None place [] = []
ranges_at (Some first) place [] = record { first = first; last = place } ∷ []
ranges_at None place (true ∷ on) = ranges_at (Some place) (place + 1) on
ranges_at None place (false ∷ on) = ranges_at None (place + 1) on
ranges_at (Some first) place (true ∷ on) = ranges_at (Some first) (place + 1) on
ranges_at (Some first) place (false ∷ on) = record { first = first; last = place } ∷ ranges_at None (place + 1) on

-- the ranges of all flags
abbrev pub ranges_of : List Bool → List Range
ranges_of on = ranges_at None 0 on

-- the flags from a place up to the last of so many characters, where these ranges are on
abbrev pub flags_at : ℕ → ℕ → List Range → List Bool
flags_at place len [] = replicate (len - place) false
flags_at place len (r ∷ ranges) = replicate (r.first - place) false ++ (replicate (r.last - r.first) true ++ flags_at r.last len ranges)

-- the flags of so many characters
abbrev pub flags_of : ℕ → List Range → List Bool
flags_of len ranges = flags_at 0 len ranges

-- a range is behind the one before it, and doesn't touch it
abbrev pub is_behind : Option Range → ℕ → Bool
is_behind None first = true
is_behind (Some before) first = nat_lt before.last first

-- ranges of so many characters: they rise, none is empty, and none touches another
abbrev pub AreRanges : ℕ → Option Range → List Range → Type 0
AreRanges len before [] = Unit {0}
AreRanges len before (r ∷ ranges) = (is_behind before r.first ≡ true) × (r.first < r.last) × (r.last ≤ len) × AreRanges len (Some r) ranges

-- the places at which ranges begin and end, in turn
abbrev pub ends_of : List Range → List ℕ
ends_of [] = []
ends_of (r ∷ ranges) = r.first ∷ (r.last ∷ ends_of ranges)

-- ---- ranges that are changed where they stand

-- how many ranges end before a place
abbrev pub ending_before : ℕ → List Range → ℕ
ending_before place ranges = prefix_len (λ r. nat_lt r.last place) ranges

-- how many begin up to a place
abbrev pub beginning_up_to : ℕ → List Range → ℕ
beginning_up_to place ranges = prefix_len (λ r. nat_le r.first place) ranges

-- where the first of ranges begins, or a place before it
abbrev pub begin_of : List Range → ℕ → ℕ
begin_of [] place = place
begin_of (r ∷ ranges) place = min r.first place

-- where one ends, or a place behind it
abbrev pub end_or : Option Range → ℕ → ℕ
end_or None place = place
end_or (Some r) place = max r.last place

-- where the last of ranges ends, or a place behind it
abbrev pub end_of : List Range → ℕ → ℕ
end_of ranges place = end_or (slice_get ranges (length ranges - 1)) place

-- those that aren't empty
abbrev pub unless_empty : List Range → List Range
unless_empty ranges = filter (λ r. nat_lt r.first r.last) ranges

-- which of the characters that come in between two places lack the tag: those from one place up to another, or none, told at
-- the end of the range that they come into
abbrev pub untagged : ℕ → ℕ → ℕ → Bool → ℕ × ℕ
untagged first behind end value = if value || (first == behind) then (end, end) else (first, behind)

-- a range, as one place goes to another
abbrev pub moved : ℕ → ℕ → Range → Range
moved from to r = record { first = r.first - from + to; last = r.last - from + to }

-- it is behind that place, and its own stay small
abbrev pub MayMove : ℕ → ℕ → Range → Type 0
MayMove from to r = (from ≤ r.first) × (from ≤ r.last) × (r.first + to < 2 ^ 64) × (r.last + to < 2 ^ 64)
