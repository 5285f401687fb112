-- What an index is (text(n), "INDICES"): a base, and modifiers behind it, each taken for itself. That keywords are written in
-- full, that white space may stand around each part, that numbers are decimal, and that a name may be a whole index whatever
-- stands in it, are this project's own rules.
use Rattle.std.specs.Prelude.{◌≡◌, ℕ, ◌<◌, ◌==◌, ◌||◌, ◌⊎◌, not, Bool, true, false, List, [], ◌∷◌, ◌++◌, length, codes, Option, Some, None}
use Rattle.std.specs.List.{AllByRecursion}
use Rattle.std.specs.Str.Parse.{digits_value}
use Rattle.tks_text.specs.Text.{BeginsNot}
use Rattle.tks_text.specs.Integer.{is_space, AreSpaces, AreDigits}
use Rattle.tks_lines.specs.declared.modifier.Step.{Step}
use Rattle.tks_lines.specs.declared.modifier.Modifier.{Modifier}
use Rattle.tks_lines.specs.declared.modifier.Modifier.TheVariants as kind
use Rattle.tks_lines.specs.declared.parts.Mark.{Mark}
use Rattle.tks_lines.specs.Lines.{Lines}
use Rattle.tks_lines.specs.Places.{end_place, place_of_line, changed}

-- ---- characters

abbrev pub is_minus : ℕ → Bool
is_minus c = c == 45

-- what begins a modifier by a count
abbrev pub is_sign : ℕ → Bool
is_sign c = (c == 43) || is_minus c

-- what a name or a keyword has
abbrev pub is_of_word : ℕ → Bool
is_of_word c = not (is_space c || is_sign c)

-- x is one of these
abbrev pub Among : {X : Type 0} → X → List X → Type 0
Among x [] = ⊥
Among x (y ∷ ys) = (x ≡ y) ⊎ Among x ys

-- ---- parts of bases

-- digits, one at least, and the number that they write
pub record IsNumber (t : List ℕ) (n : ℕ) : Type 0 where
  pub some : 0 < length t
  pub digits : AreDigits 10 t
  pub value : n ≡ digits_value 10 t

-- a column of a line, or `end` for the line's end
pub data ColumnText : List ℕ → Option ℕ → Type 0 where
  number : (t : List ℕ) (n : ℕ) → IsNumber t n → ColumnText t (Some n)
  line_end : ColumnText (codes "end") None

-- `L.C` or `L.end`, and the place there; where a minus stands before it the line is below the first, and the place the first
-- one
pub data PlaceText (text : List ℕ) : List ℕ → ℕ → Type 0 where
  in_line : (l c : List ℕ) (line : ℕ) (column : Option ℕ) → IsNumber l line → ColumnText c column → PlaceText text (l ++ 46 ∷ c) (place_of_line text line column)
  below_first : (l c : List ℕ) (line : ℕ) (column : Option ℕ) → IsNumber l line → ColumnText c column → PlaceText text (45 ∷ (l ++ 46 ∷ c)) 0

-- `end`, or the name of a mark, and its place
pub data NameText (t : Lines) : List ℕ → ℕ → Type 0 where
  text_end : NameText t (codes "end") (end_place t.text)
  mark : (m : Mark) → Among m t.marks → (m.name ≡ codes "end" → ⊥) → NameText t m.name m.place

-- ---- modifiers

-- how far: a number, and a sign before it or none
pub data CountText : List ℕ → Step → Type 0 where
  bare : (t : List ℕ) (n : ℕ) → IsNumber t n → CountText t (record { back = false; count = n })
  plus : (t : List ℕ) (n : ℕ) → IsNumber t n → CountText (43 ∷ t) (record { back = false; count = n })
  minus : (t : List ℕ) (n : ℕ) → IsNumber t n → CountText (45 ∷ t) (record { back = true; count = n })

-- what is counted
pub data UnitText : List ℕ → Step → Modifier → Type 0 where
  chars : (u : List ℕ) (s : Step) → Among u (codes "c" ∷ codes "char" ∷ codes "chars" ∷ []) → UnitText u s (kind.Chars s)
  lines : (u : List ℕ) (s : Step) → Among u (codes "l" ∷ codes "line" ∷ codes "lines" ∷ []) → UnitText u s (kind.Lines s)

-- the other direction
abbrev pub opposite : Step → Step
opposite s = record s { back = not s.back }

-- `+ COUNT UNIT`, `- COUNT UNIT`, `linestart` or `lineend`
pub data ModifierText : List ℕ → Modifier → Type 0 where
  forward : (a n b u : List ℕ) (s : Step) (m : Modifier) → AreSpaces a → CountText n s → AreSpaces b → UnitText u s m → ModifierText (43 ∷ (a ++ (n ++ (b ++ u)))) m
  backward : (a n b u : List ℕ) (s : Step) (m : Modifier) → AreSpaces a → CountText n s → AreSpaces b → UnitText u (opposite s) m → ModifierText (45 ∷ (a ++ (n ++ (b ++ u)))) m
  line_start : ModifierText (codes "linestart") kind.LineStart
  line_end : ModifierText (codes "lineend") kind.LineEnd

-- no letter of a name or a keyword stands at the front: nothing, white space or a sign
abbrev pub EndsWord : List ℕ → Type 0
EndsWord t = BeginsNot is_of_word t

-- the modifiers in a text, one after the other, make the place q of p
pub data Moves (text : List ℕ) : List ℕ → ℕ → ℕ → Type 0 where
  none : (p : ℕ) → Moves text [] p p
  space : (c : ℕ) (u : List ℕ) (p q : ℕ) → is_space c ≡ true → Moves text u p q → Moves text (c ∷ u) p q
  modifier : (w u : List ℕ) (m : Modifier) (p q : ℕ) → ModifierText w m → EndsWord u → Moves text u (changed text p m) q → Moves text (w ++ u) p q

-- ---- indices

-- t doesn't begin with `L.C` or `L.end`
abbrev pub BeginsNoPlace : List ℕ → Type 0
BeginsNoPlace t = (text x y : List ℕ) (p : ℕ) → t ≡ x ++ y → PlaceText text x p → ⊥

-- b is a base, where v stands behind it
pub data BaseThen (t : Lines) : List ℕ → List ℕ → ℕ → Type 0 where
  place : (b v : List ℕ) (p : ℕ) → PlaceText t.text b p → BaseThen t b v p
  name : (b v : List ℕ) (p : ℕ) → NameText t b p → AllByRecursion (λ c. is_of_word c ≡ true) b → EndsWord v → BeginsNot is_space (b ++ v) → BeginsNoPlace (b ++ v) → BaseThen t b v p

-- a text is an index, and names a place: as a place that is told; as a name, whatever stands in it; or else as white space, a
-- base, and modifiers
pub data IndexText (t : Lines) : List ℕ → ℕ → Type 0 where
  place : (w : List ℕ) (p : ℕ) → PlaceText t.text w p → IndexText t w p
  name : (w : List ℕ) (p : ℕ) → ((q : ℕ) → PlaceText t.text w q → ⊥) → NameText t w p → IndexText t w p
  parts : (a b m : List ℕ) (p q : ℕ) → ((r : ℕ) → PlaceText t.text (a ++ (b ++ m)) r → ⊥) → ((r : ℕ) → NameText t (a ++ (b ++ m)) r → ⊥) → AreSpaces a → BaseThen t b m p → Moves t.text m p q → IndexText t (a ++ (b ++ m)) q
