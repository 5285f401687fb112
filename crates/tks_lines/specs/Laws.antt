-- What a user of text widgets would doubt (text(n), "INDICES", "TAGS", "MARKS"), said of their changes and answers.
use Rattle.std.specs.Prelude.{◌≡◌, ℕ, ◌+◌, ◌≤◌, ◌<◌, ◌&&◌, ◌||◌, nat_le, nat_lt, Bool, false, List, [], ◌∷◌, length, map, Option, slice_get}
use Rattle.std.specs.List.{filter}
use Rattle.tks_lines.specs.declared.parts.Tag.{Tag}
use Rattle.tks_lines.specs.declared.parts.Mark.{Mark}
use Rattle.tks_lines.specs.Lines.{Lines, inserted, deleted, is_true}
use Rattle.tks_lines.specs.Commands.{edges, names_on}

-- characters came in at a place and were taken out again
abbrev pub in_and_out : ℕ → List ℕ → Lines → Lines
in_and_out place more t = deleted place (place + length more) (inserted place more t)

-- a mark that isn't behind another, and, where both stand at one place, isn't the one that goes on alone
abbrev pub GoesBefore : Mark → Mark → Type 0
GoesBefore m n = (m.place ≤ n.place) × (m.place ≡ n.place → m.left ≡ false → n.left ≡ false)

-- the places are beginnings and ends of ranges in turn: from a place on, none of them empty, and none where another ends
abbrev pub AreRanges : ℕ → List ℕ → Type 0
AreRanges low [] = Unit {0}
AreRanges low (first ∷ []) = ⊥
AreRanges low (first ∷ last ∷ places) = (low ≤ first) × (first < last) × AreRanges (last + 1) places

-- whether a character is in one of them
abbrev pub in_ranges : ℕ → List ℕ → Bool
in_ranges place [] = false
in_ranges place (first ∷ []) = false
in_ranges place (first ∷ last ∷ places) = (nat_le first place && nat_lt place last) || in_ranges place places

-- the ranges of a tag with these flags are just the characters that have it
abbrev pub RangesOf : List Bool → Type 0
RangesOf on = AreRanges 0 (edges false 0 on) × ((place : ℕ) → in_ranges place (edges false 0 on) ≡ is_true (slice_get on place))

-- a character, if there is one, and the names of the tags on it, in the order of the tags
pub record Character : Type 0 where
  pub byte : Option ℕ
  pub tags : List (List ℕ)

-- the character behind a place
abbrev pub character_at : Lines → ℕ → Character
character_at t place = record { byte = slice_get t.text place; tags = names_on place t.tags }

-- with these characters, and the tags for which a test holds on each of them, put in at a place: those before and those
-- behind are what they were
pub record PutsIn (place : ℕ) (more : List ℕ) (test : Tag → Bool) (t u : Lines) : Type 0 where
  pub before : (i : ℕ) → i < place → character_at u i ≡ character_at t i
  pub here : (i : ℕ) → i < length more → character_at u (place + i) ≡ record { byte = slice_get more i; tags = map (λ g. g.name) (filter test t.tags) }
  pub behind : (i : ℕ) → character_at u (place + (length more + i)) ≡ character_at t (place + i)

-- with the characters between two places taken out
pub record TakesOut (first last : ℕ) (t u : Lines) : Type 0 where
  pub before : (i : ℕ) → i < first → character_at u i ≡ character_at t i
  pub behind : (i : ℕ) → character_at u (first + i) ≡ character_at t (last + i)
