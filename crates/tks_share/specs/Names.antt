-- Names in the order of their bytes, and entries under them.
use Rattle.std.specs.Prelude.{◌≡◌, ℕ, zero, suc, ◌+◌, ◌*◌, ◌<◌, not, slice_index, List, [], ◌∷◌, Some}
use Rattle.std.specs.declared.cmp.Ordering.{Ordering}
use Rattle.std.specs.Ordering.{nat_cmp, eq_by_cmp, is_lt}
use Rattle.std.specs.Cmp.Lexicographic.{slice_cmp}
use Rattle.std.specs.FinMap.Entries.{find, put, where_key}

-- how one name stands to another
abbrev pub order : List ℕ → List ℕ → Ordering
order = slice_cmp nat_cmp

-- each item is a byte
abbrev pub IsBytes : List ℕ → Type 0
IsBytes name = (i : ℕ) → slice_index name i < 256

-- the number that is spelt by another and then, a byte for each place, by a name's first bytes, with zeros for those that are missing
abbrev pub spelt : ℕ → ℕ → List ℕ → ℕ
spelt zero number name = number
spelt (suc places) number [] = spelt places (number * 256) []
spelt (suc places) number (byte ∷ name) = spelt places (number * 256 + byte) name

-- a name's first eight bytes as a number
abbrev pub head_of : List ℕ → ℕ
head_of = spelt 8 0

module _ {V : Type 0} where
  -- the entries but for a name's
  abbrev pub without : List ℕ → List (List ℕ × V) → List (List ℕ × V)
  without name = where_key order (λ other. not (eq_by_cmp order name other))

  -- those whose names come behind this one
  abbrev pub behind : List ℕ → List (List ℕ × V) → List (List ℕ × V)
  behind name = where_key order (λ other. is_lt (order name other))

-- the value that was found under a name was changed, the change gave this answer, and nothing else is new
pub record IsChanged {V A : Type 0} (gives : V → V → A → Type 0) (name : List ℕ) (old new : List (List ℕ × V)) (answer : A) : Type 0 where
  pub before : V
  pub after : V
  pub found : find order name old ≡ Some before
  pub given : gives before after answer
  pub now : new ≡ put order name after old
