-- Texts (this project's own rule): which bytes stand in one.
use Rattle.std.specs.Prelude.{◌≡◌, ℕ, List, [], ◌∷◌, Bool, true, false, ◌||◌, ◌&&◌, ◌==◌, nat_le, nat_eq}
use Rattle.std.specs.List.{AllByRecursion, list_all}
use Rattle.std.specs.Cmp.Lexicographic.{pointwise}

-- tab, newline, or a printing character of ASCII
abbrev pub is_text_byte : ℕ → Bool
is_text_byte b = (b == 9) || (b == 10) || (nat_le 32 b && nat_le b 126)

abbrev pub IsTextByte : ℕ → Type 0
IsTextByte b = is_text_byte b ≡ true

abbrev pub IsText : List ℕ → Type 0
IsText bytes = AllByRecursion IsTextByte bytes

-- whether bytes are a text, as a test
abbrev pub is_text : List ℕ → Bool
is_text bytes = list_all is_text_byte bytes

-- does it begin with a dot, as paths of windows do?
abbrev pub begins_dot : List ℕ → Bool
begins_dot [] = false
begins_dot (c ∷ text) = c == 46

-- whether two texts are the same
abbrev pub same_text : List ℕ → List ℕ → Bool
same_text = pointwise nat_eq

-- a text at its end, or that begins with a byte for which p fails
abbrev pub BeginsNot : (ℕ → Bool) → List ℕ → Type 0
BeginsNot p [] = Unit {0}
BeginsNot p (c ∷ t) = p c ≡ false
