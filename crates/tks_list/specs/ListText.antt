-- The list that a text splits into, by cases on the list: the rules of lindex(n) and Tcl(n) for lists.
--
-- "t is X, then v" says that X stands at the front of t, and v behind it.
use Rattle.std.specs.Prelude.{◌≡◌, ℕ, Bool, true, false, ◌||◌, ◌==◌, List, [], ◌∷◌, ◌++◌, drop}
use Rattle.tks_text.specs.Backslash.{Escapes}
use Rattle.tks_text.specs.Integer.{is_space, AreSpaces}
use Rattle.tks_text.specs.Text.{is_text_byte}
use Rattle.tks_list.specs.declared.ends.Ends.{Ends}
use Rattle.tks_list.specs.declared.ends.Ends.TheVariants.{Space, Quote}

-- ---- braces

-- braces, and the backslash that takes their meaning from them
abbrev pub is_brace_sign : ℕ → Bool
is_brace_sign c = (c == 92) || (c == 123) || (c == 125)

-- a text whose braces match, where a character behind a backslash isn't counted
pub data Matched : List ℕ → Type 0 where
  nothing : Matched []
  plain : (c : ℕ) (e : List ℕ) → is_brace_sign c ≡ false → Matched e → Matched (c ∷ e)
  behind_backslash : (c : ℕ) (e : List ℕ) → Matched e → Matched (92 ∷ c ∷ e)
  braces : (d e : List ℕ) → Matched d → Matched e → Matched (123 ∷ d ++ 125 ∷ e)

-- ---- characters

-- where the characters of an element end: a bare one's at white space, a quoted one's at a quote
abbrev pub ends_at : Ends → ℕ → Bool
ends_at Space c = is_space c
ends_at Quote c = c == 34

-- t is characters and escapes that stand for e, then v. That no escape stands for a byte outside the texts is this
-- project's own rule
pub data CharsThen (ends : Ends) (v : List ℕ) : List ℕ → List ℕ → Type 0 where
  no_char : CharsThen ends v [] v
  char : (c : ℕ) (e u : List ℕ) → ends_at ends c ≡ false → c == 92 ≡ false → CharsThen ends v e u → CharsThen ends v (c ∷ e) (c ∷ u)
  escaped : (c n : ℕ) (e u : List ℕ) → Escapes u c n → is_text_byte c ≡ true → CharsThen ends v e (drop n u) → CharsThen ends v (c ∷ e) (92 ∷ u)

-- ---- lists

-- white space, and what opens an element of another kind
abbrev pub begins_no_bare : ℕ → Bool
begins_no_bare c = is_space c || (c == 34) || (c == 123)

-- a text that begins, and with a character for which p fails
abbrev pub BeginsOther : (ℕ → Bool) → List ℕ → Type 0
BeginsOther p [] = ⊥
BeginsOther p (c ∷ u) = p c ≡ false

-- a text at its end, or that begins with white space
abbrev pub AtEndOrSpace : List ℕ → Type 0
AtEndOrSpace [] = Unit {0}
AtEndOrSpace (c ∷ u) = is_space c ≡ true

-- t is an element of this value, in braces, in quotes or bare, then v
pub data ElementThen (v : List ℕ) : List ℕ → List ℕ → Type 0 where
  braced : (e : List ℕ) → Matched e → ElementThen v e (123 ∷ e ++ 125 ∷ v)
  in_quotes : (e u : List ℕ) → CharsThen Quote (34 ∷ v) e u → ElementThen v e (34 ∷ u)
  bare : (e t : List ℕ) → BeginsOther begins_no_bare t → CharsThen Space v e t → ElementThen v e t

-- t is white space, then v
abbrev pub SpacesThen : List ℕ → List ℕ → Type 0
SpacesThen t v = (x : List ℕ) × (t ≡ x ++ v) × AreSpaces x

-- the text t splits into these elements: they stand between white space
abbrev pub Splits : List ℕ → List (List ℕ) → Type 0
Splits t [] = AreSpaces t
Splits t (e ∷ l) = (x y : List ℕ) × SpacesThen t x × ElementThen y e x × AtEndOrSpace y × Splits y l
