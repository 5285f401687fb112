-- The sequence that a text spells, by cases on the sequence (bind(n), "Event patterns"). What a pattern may name is this
-- project's own choice.
--
-- "t is X, then v" says that X stands at the front of t, and v behind it.
use Rattle.std.specs.Prelude.{◌≡◌, ℕ, ◌<◌, Bool, true, false, not, ◌&&◌, ◌||◌, ◌==◌, nat_le, bit_or, List, [], ◌∷◌, ◌++◌, length, Option, Some, codes}
use Rattle.std.specs.List.{AllByRecursion}
use Rattle.tks_text.specs.Integer.{is_space, AreSpaces}
use Rattle.tks_event.specs.Keysyms.{named_in, is_keysym, keysym_of}
use Rattle.tks_event.specs.Modifiers.{bit_of, modifier_named}
use Rattle.tks_event.specs.Kinds.{kind_named, is_button, is_detail}
use Rattle.tks_event.specs.Sequences.{all_events, is_name}
use Rattle.tks_event.specs.declared.kind.Kind.{Kind}
use Rattle.tks_event.specs.declared.kind.Kind.TheVariants as kind
use Rattle.tks_event.specs.declared.modifiers.Modifier.{Modifier}
use Rattle.tks_event.specs.declared.pattern.Pattern.{Pattern}
use Rattle.tks_event.specs.declared.pattern.Repeated.{Repeated}

-- ---- words

-- what separates words: white space and dashes
abbrev pub is_separator : ℕ → Bool
is_separator c = is_space c || (c == 45)

abbrev pub ends_word : ℕ → Bool
ends_word c = is_separator c || (c == 62)

-- at least one character, and none that ends a word
abbrev pub IsWord : List ℕ → Type 0
IsWord w = (0 < length w) × AllByRecursion (λ c. ends_word c ≡ false) w

-- separators and nothing else, or none
abbrev pub AreSeparators : List ℕ → Type 0
AreSeparators s = AllByRecursion (λ c. is_separator c ≡ true) s

-- at least one separator, and nothing else
abbrev pub IsSeparation : List ℕ → Type 0
IsSeparation s = (0 < length s) × AreSeparators s

-- t is these words with separators between them, and perhaps behind the last, then v
pub data WordsThen (v : List ℕ) : List (List ℕ) → List ℕ → Type 0 where
  last : (w s : List ℕ) → IsWord w → AreSeparators s → WordsThen v (w ∷ []) (w ++ (s ++ v))
  word : (w s u : List ℕ) (ws : List (List ℕ)) → IsWord w → IsSeparation s → WordsThen v ws u → WordsThen v (w ∷ ws) (w ++ (s ++ u))

-- ---- what words say

-- the repeat words
abbrev pub repeats : List (List ℕ × ℕ)
repeats = (codes "Double", 2) ∷ (codes "Triple", 3) ∷ (codes "Quadruple", 4) ∷ []

-- how often a repeat word lets its pattern come
abbrev pub times_named : List ℕ → Option ℕ
times_named w = named_in repeats w

-- the words are a type, a detail, or both. A detail alone is one of a press: of a button where it is the number of one,
-- else of a key
pub data Names : List (List ℕ) → Kind → List ℕ → Type 0 where
  type : (w : List ℕ) (k : Kind) → kind_named w ≡ Some k → Names (w ∷ []) k []
  type_and_detail : (w d : List ℕ) (k : Kind) → kind_named w ≡ Some k → is_detail k d ≡ true → Names (w ∷ d ∷ []) k d
  button : (d : List ℕ) → is_button d ≡ true → Names (d ∷ []) kind.ButtonPress d
  keysym : (d : List ℕ) → is_keysym d ≡ true → is_button d ≡ false → Names (d ∷ []) kind.KeyPress d

-- a pattern that comes once
abbrev pub once : Kind → ℕ → List ℕ → Repeated
once k modifiers d = record { pattern = record { near = false; kind = k; modifiers = modifiers; detail = d }; times = 1 }

-- the same with one modifier more
abbrev pub with_more : Modifier → Repeated → Repeated
with_more m r =
    record {
      pattern = record { near = r.pattern.near; kind = r.pattern.kind; modifiers = bit_or r.pattern.modifiers (bit_of m); detail = r.pattern.detail };
      times = r.times;
    }

-- the same so many times
abbrev pub repeated : ℕ → Repeated → Repeated
repeated n r = record { pattern = r.pattern; times = n }

-- the words are modifiers and at most one repeat word, in any order, then a type, a detail or both
pub data Says : List (List ℕ) → Repeated → Type 0 where
  names : (ws : List (List ℕ)) (k : Kind) (d : List ℕ) → Names ws k d → Says ws (once k 0 d)
  modifier : (w : List ℕ) (ws : List (List ℕ)) (m : Modifier) (r : Repeated) → modifier_named w ≡ Some m → Says ws r → Says (w ∷ ws) (with_more m r)
  repeat : (w : List ℕ) (ws : List (List ℕ)) (n : ℕ) (r : Repeated) → times_named w ≡ Some n → r.times ≡ 1 → Says ws r → Says (w ∷ ws) (repeated n r)

-- ---- patterns

-- a printing character other than space and `<`
abbrev pub is_bare : ℕ → Bool
is_bare c = nat_le 33 c && (nat_le c 126 && not (c == 60))

-- t is a pattern of physical events, then v: a character, which stands for the press of its key, or words in brackets
pub data PatternThen (v : List ℕ) : Repeated → List ℕ → Type 0 where
  bare : (c : ℕ) (k : List ℕ) → is_bare c ≡ true → keysym_of c ≡ Some k → PatternThen v (once kind.KeyPress 0 k) (c ∷ v)
  in_brackets : (ws : List (List ℕ)) (r : Repeated) (u : List ℕ) → WordsThen (62 ∷ v) ws u → Says ws r → PatternThen v r (60 ∷ u)

-- the pattern of a virtual event
abbrev pub virtual_one : List ℕ → Pattern
virtual_one n = record { near = false; kind = kind.Virtual; modifiers = 0; detail = n }

-- t is a pattern alone, of physical events or of a virtual one
pub data SpellsPattern : List ℕ → Repeated → Type 0 where
  physical : (t : List ℕ) (r : Repeated) → PatternThen [] r t → SpellsPattern t r
  virtual : (n : List ℕ) → is_name n ≡ true → SpellsPattern (60 ∷ 60 ∷ n ++ 62 ∷ 62 ∷ []) (record { pattern = virtual_one n; times = 1 })

-- ---- sequences

-- t is these patterns of physical events, with white space around them or none
pub data Patterns : List Repeated → List ℕ → Type 0 where
  no_more : (t : List ℕ) → AreSpaces t → Patterns [] t
  pattern : (s u v : List ℕ) (r : Repeated) (rs : List Repeated) → AreSpaces s → PatternThen v r u → Patterns rs v → Patterns (r ∷ rs) (s ++ u)

-- the text t spells this list of patterns, however long: one or more of physical events, or a virtual one, which stands alone
pub data Spells : List ℕ → List Pattern → Type 0 where
  events : (t : List ℕ) (r : Repeated) (rs : List Repeated) → Patterns (r ∷ rs) t → Spells t (all_events (r ∷ rs))
  virtual_event : (s n e : List ℕ) → AreSpaces s → is_name n ≡ true → AreSpaces e → Spells (s ++ (60 ∷ 60 ∷ n ++ 62 ∷ 62 ∷ e)) (virtual_one n ∷ [])
