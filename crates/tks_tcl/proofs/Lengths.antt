-- How long texts that are made of parts are.
use Rattle.std.proofs.Common.{◌≡◌, ℕ, ◌+◌, ◌<◌, ◌≤◌, ◌==◌, ◌||◌, nat_le, Bool, true, false, not, cond, if◌then◌else◌, codes, List, [], ◌∷◌, ◌++◌, length, length-append, Ok, Err, refl, sym, ap, ◌∙◌, arith}
use Rattle.std.specs.Prelude.{map, filter}
use Rattle.std.proofs.lemmas.Bool.Decides.{nat_tests}
use Rattle.tks_text.specs.declared.limits.Limits.{Limits}
use Rattle.tks_list.specs.Quoting.{is_sign, stands_bare, stands_in_braces, in_braces, backslashed_char, backslashed_chars, backslashed, quoted, spaced, joined}
use Rattle.tks_tcl.specs.Cause.{OverLimit, within}
use Rattle.tks_text.specs.Limits.{fits}
use Rattle.tks_tcl.specs.Lists.{separated, joined_by, trimmed, concatenated}
use Rattle.tks_tcl.specs.Room.{room_of}
use Rattle.tks_tcl.specs.Variables.{flat}

-- ---- tests of numbers

same_le : (a b n m : ℕ) → (a ≤ n → b ≤ m) → (b ≤ m → a ≤ n) → nat_le a n ≡ nat_le b m
same_le a b n m there back = by (nat_le a n) (nat_le b m) refl refl
  where
    by : (x y : Bool) → nat_le a n ≡ x → nat_le b m ≡ y → nat_le a n ≡ nat_le b m
    by true true p q = p ∙ sym q
    by false false p q = p ∙ sym q
    by true false p q = let within : b ≤ m = there (grind (arith, nat_tests)) in grind (arith, nat_tests)
    by false true p q = let within : a ≤ n = back (grind (arith, nat_tests)) in grind (arith, nat_tests)

-- what two lists take
pub room_of_both : (more : ℕ) (l m : List (List ℕ)) → room_of more (l ++ m) ≡ room_of more l + room_of more m
room_of_both more [] m = omega arith
room_of_both more (t ∷ l) m = let rest = room_of_both more l m in omega (arith, rest)

-- ---- separators

separated_len : (s : List ℕ) (l : List (List ℕ)) → length (separated s l) ≡ room_of (length s) l
separated_len s [] = refl
separated_len s (t ∷ l) =
    let rest = separated_len s l in
    let whole : length (separated s (t ∷ l)) ≡ length (s ++ t) + length (separated s l) = length-append (s ++ t) (separated s l) in
    omega (arith, rest, whole, length-append s t)

pub joined_room : (limits : Limits) (s : List ℕ) (l : List (List ℕ)) → nat_le (room_of (length s) l) (limits.text + length s) ≡ fits limits (joined_by s l)
joined_room limits s [] = same_le 0 0 (limits.text + length s) limits.text (λ h. omega arith) (λ h. omega arith)
joined_room limits s (t ∷ l) =
    let rest = separated_len s l in
    let whole = length-append t (separated s l) in
    same_le (room_of (length s) (t ∷ l)) (length (joined_by s (t ∷ l))) (limits.text + length s) limits.text (λ h. omega (arith, h, rest, whole)) (λ h. omega (arith, h, rest, whole))

-- ---- texts without outer white space

abbrev pub kept : List (List ℕ) → List (List ℕ)
kept words = filter (λ t. not (length t == 0)) (map trimmed words)

pub kept_some : (word : List ℕ) (words : List (List ℕ)) → 0 < length (trimmed word) → room_of 1 (kept (word ∷ words)) ≡ length (trimmed word) + 1 + room_of 1 (kept words)
kept_some word words some =
    let is : (length (trimmed word) == 0) ≡ false = grind (arith, nat_tests) in
    ap (λ b. room_of 1 (cond (not b) (trimmed word ∷ kept words) (kept words))) is

pub concatenated_room : (limits : Limits) (words : List (List ℕ)) → nat_le (room_of 1 (kept words)) (limits.text + 1) ≡ fits limits (concatenated words)
concatenated_room limits words = joined_room limits (codes " ") (kept words)

-- ---- texts one after the other

pub flat_len : (l : List (List ℕ)) → length (flat l) ≡ room_of 0 l
flat_len [] = refl
flat_len (t ∷ l) = let rest = flat_len l in omega (arith, rest, length-append t (flat l))

pub flat_room : (limits : Limits) (l : List (List ℕ)) → nat_le (room_of 0 l) limits.text ≡ fits limits (flat l)
flat_room limits l = ap (λ n. nat_le n limits.text) (sym (flat_len l))

-- ---- elements of lists

char_len : (c : ℕ) → 1 ≤ length (backslashed_char c)
char_len c = by (c == 10) (c == 9) ((c == 32) || is_sign c)
  where
    by : (x y z : Bool) → 1 ≤ length (if x then 92 ∷ 110 ∷ [] else (if y then 92 ∷ 116 ∷ [] else (if z then 92 ∷ c ∷ [] else c ∷ [])))
    by true y z = omega arith
    by false true z = omega arith
    by false false true = omega arith
    by false false false = omega arith

chars_len : (e : List ℕ) → length e ≤ length (backslashed_chars e)
chars_len [] = omega arith
chars_len (c ∷ e) =
    let first = char_len c in
    let rest = chars_len e in
    omega (arith, first, rest, length-append (backslashed_char c) (backslashed_chars e))

backslashed_len : (e : List ℕ) → length e ≤ length (backslashed e)
backslashed_len [] = omega arith
backslashed_len (c ∷ e) = by (c == 35)
  where
    by : (b : Bool) → length (c ∷ e) ≤ length (if b then 92 ∷ 35 ∷ backslashed_chars e else backslashed_chars (c ∷ e))
    by true = let rest = chars_len e in omega (arith, rest)
    by false = chars_len (c ∷ e)

-- no element is shorter as it is written
quoted_len : (e : List ℕ) → length e ≤ length (quoted e)
quoted_len e = by (stands_bare e) (stands_in_braces e)
  where
    by : (b c : Bool) → length e ≤ length (if b then e else (if c then in_braces e else backslashed e))
    by true c = omega arith
    by false true = omega (arith, length-append e (125 ∷ []))
    by false false = backslashed_len e

pub spaced_len : (l : List (List ℕ)) → room_of 1 l ≤ length (spaced l)
spaced_len [] = omega arith
spaced_len (e ∷ l) =
    let first = quoted_len e in
    let rest = spaced_len l in
    omega (arith, first, rest, length-append (quoted e) (spaced l))

pub joined_len : (l : List (List ℕ)) → room_of 1 l ≤ length (joined l) + 1
joined_len [] = omega arith
joined_len (e ∷ l) =
    let first = quoted_len e in
    let rest = spaced_len l in
    omega (arith, first, rest, length-append (quoted e) (spaced l))

pub list_too_long : (limits : Limits) (l : List (List ℕ)) → nat_le (room_of 1 l) (limits.text + 1) ≡ false → within limits (joined l) ≡ Err OverLimit
list_too_long limits l over =
    let least = joined_len l in
    let no : fits limits (joined l) ≡ false = grind (arith, nat_tests) in
    ap (λ b. if b then Ok (joined l) else Err OverLimit) no
