-- What stands behind a backslash (Tcl(n), rule 9).
use Rattle.std.specs.Prelude.{◌≡◌, ℕ, suc, ◌+◌, ◌<◌, ◌≤◌, Bool, true, false, ◌||◌, ◌==◌, nat_le, min, List, [], ◌∷◌, ◌++◌, length, take, Option, Some, None, if◌then◌else◌}
use Rattle.std.specs.Char.{is_digit}
use Rattle.std.specs.List.{AllByRecursion, prefix_len}
use Rattle.std.specs.Str.Parse.{digits_value}
use Rattle.tks_text.specs.Integer.{AreDigits}
use Rattle.tks_text.specs.Text.{is_text_byte, BeginsNot}

-- white space that a backslash before a newline takes along: space and tab
abbrev pub is_blank : ℕ → Bool
is_blank c = (c == 32) || (c == 9)

-- ---- the relation

-- the letters that stand for control characters
pub data Control : ℕ → ℕ → Type 0 where
  a_bell : Control 97 7
  b_backspace : Control 98 8
  f_form_feed : Control 102 12
  n_newline : Control 110 10
  r_carriage_return : Control 114 13
  t_tab : Control 116 9
  v_vertical_tab : Control 118 11

-- newline, the octal digits, the seven letters, `x` and `u`: what doesn't stand for itself
abbrev pub has_meaning : ℕ → Bool
has_meaning c =
    (c == 10) || is_digit c 8 || (c == 97) || (c == 98) || (c == 102) || (c == 110) || (c == 114) || (c == 116) || (c == 118) || (c == 120) || (c == 117)

-- ds are digits that stand before v: at least one, at most `most`, and of a value that is at most `greatest`.
-- They are all such: a further digit would be one too many, or make the value too great
pub record DigitsThen (base most greatest : ℕ) (ds v : List ℕ) : Type 0 where
  pub some : 0 < length ds
  pub few : length ds ≤ most
  pub digits : AreDigits base ds
  pub within : digits_value base ds ≤ greatest
  pub longest : (d : ℕ) (w : List ℕ) → v ≡ d ∷ w → is_digit d base ≡ true → length ds < most → greatest < digits_value base (ds ++ d ∷ [])

-- the text t, which stands behind a backslash, begins with n bytes that stand for the character c. That a
-- backslash at the end stands for itself is this project's own rule
pub data Escapes : List ℕ → ℕ → ℕ → Type 0 where
  at_end : Escapes [] 92 0
  newline : (blanks v : List ℕ) → AllByRecursion (λ c. is_blank c ≡ true) blanks → BeginsNot is_blank v → Escapes (10 ∷ blanks ++ v) 32 (suc (length blanks))
  control : (letter c : ℕ) (v : List ℕ) → Control letter c → Escapes (letter ∷ v) c 1
  octal : (ds v : List ℕ) → DigitsThen 8 3 255 ds v → Escapes (ds ++ v) (digits_value 8 ds) (length ds)
  hex : (ds v : List ℕ) → DigitsThen 16 2 255 ds v → Escapes (120 ∷ ds ++ v) (digits_value 16 ds) (suc (length ds))
  unicode : (ds v : List ℕ) → DigitsThen 16 4 65_535 ds v → Escapes (117 ∷ ds ++ v) (digits_value 16 ds) (suc (length ds))
  no_digit : (c : ℕ) (v : List ℕ) → (c == 120) || (c == 117) ≡ true → BeginsNot (λ d. is_digit d 16) v → Escapes (c ∷ v) c 1
  itself : (c : ℕ) (v : List ℕ) → has_meaning c ≡ false → Escapes (c ∷ v) c 1

-- ---- the function

-- a b f n r t v stand for control characters, and others for themselves
abbrev pub character : ℕ → ℕ
character c =
    if c == 97 then 7
    else (if c == 98 then 8
    else (if c == 102 then 12
    else (if c == 110 then 10
    else (if c == 114 then 13
    else (if c == 116 then 9
    else (if c == 118 then 11
    else c))))))

-- how many digits there are, up to the most that count
abbrev pub digit_count : ℕ → ℕ → List ℕ → ℕ
digit_count base most t = min most (prefix_len (λ c. is_digit c base) t)

-- the number that n digits write, and how many bytes they and those before them are
abbrev pub number_of : ℕ → ℕ → ℕ → List ℕ → ℕ × ℕ
number_of base before n t = (digits_value base (take n t), before + n)

-- the hex digits behind `x` or `u`, or that letter where there are none
abbrev pub hex_escape : ℕ → ℕ → List ℕ → ℕ × ℕ
hex_escape letter most t =
    if digit_count 16 most t == 0 then (letter, 1) else number_of 16 1 (digit_count 16 most t) t

-- up to three octal digits where they write at most 377, else up to two
abbrev pub octal_escape : List ℕ → ℕ × ℕ
octal_escape t =
    if nat_le (digits_value 8 (take (digit_count 8 3 t) t)) 255 then number_of 8 0 (digit_count 8 3 t) t
    else number_of 8 0 (digit_count 8 2 t) t

-- what the bytes behind a backslash stand for, and how many they are; a backslash at the end stands for itself
abbrev pub escaped : List ℕ → ℕ × ℕ
escaped [] = (92, 0)
escaped (c ∷ t) =
    if c == 10 then (32, prefix_len is_blank t + 1)
    else (if c == 120 then hex_escape 120 2 t
    else (if c == 117 then hex_escape 117 4 t
    else (if is_digit c 8 then octal_escape (c ∷ t)
    else (character c, 1))))

-- the same, where it stands in texts (this project's own rule)
abbrev pub in_text : ℕ × ℕ → Option (ℕ × ℕ)
in_text x = if is_text_byte x.0 then Some x else None

unfoldable pub escape : List ℕ → Option (ℕ × ℕ)
escape t = in_text (escaped t)
