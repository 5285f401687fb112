-- Integers as texts (expr(n), "Operands"): white space, a sign or none, the digits of a base, white
-- space. That they are those of 64 bits is this project's own rule.
use Rattle.std.specs.Prelude.{◌≡◌, ℕ, ◌^◌, ◌<◌, Bool, true, false, ◌||◌, ◌&&◌, ◌==◌, nat_lt, List, [], ◌∷◌, ◌++◌, length, take, drop, ℤ, pos, negsuc, neg_ℤ, Option, Some, None, Result, Ok, Err, if◌then◌else◌}
use Rattle.std.specs.Char.{is_digit}
use Rattle.std.specs.List.{AllByRecursion, list_all, prefix_len}
use Rattle.std.specs.Option.{option_map}
use Rattle.std.specs.Str.Parse.{digits_value}
use Rattle.tks_text.specs.declared.integer.Range.{Range}

-- white space: space, tab and newline
abbrev pub is_space : ℕ → Bool
is_space c = (c == 32) || (c == 9) || (c == 10)

abbrev pub AreSpaces : List ℕ → Type 0
AreSpaces t = AllByRecursion (λ c. is_space c ≡ true) t

abbrev pub AreDigits : ℕ → List ℕ → Type 0
AreDigits base t = AllByRecursion (λ c. is_digit c base ≡ true) t

-- a text that begins, and with another byte than this
abbrev pub BeginsOtherThan : ℕ → List ℕ → Type 0
BeginsOtherThan b [] = ⊥
BeginsOtherThan b (c ∷ t) = (c == b) ≡ false

-- ---- the relation

-- t is a numeral without a sign, of this value: `0x` and hex digits in both cases; `0` and octal digits,
-- or none; or decimal digits, of which the first isn't `0`
pub data Numeral : List ℕ → ℕ → Type 0 where
  hex : (ds : List ℕ) → 0 < length ds → AreDigits 16 ds → Numeral (48 ∷ 120 ∷ ds) (digits_value 16 ds)
  octal : (ds : List ℕ) → AreDigits 8 ds → Numeral (48 ∷ ds) (digits_value 8 ds)
  decimal : (ds : List ℕ) → BeginsOtherThan 48 ds → AreDigits 10 ds → Numeral ds (digits_value 10 ds)

-- t is a sign or none, and right behind it a numeral
pub data Signed : List ℕ → ℤ → Type 0 where
  bare : (t : List ℕ) (n : ℕ) → Numeral t n → Signed t (pos n)
  plus : (t : List ℕ) (n : ℕ) → Numeral t n → Signed (43 ∷ t) (pos n)
  minus : (t : List ℕ) (n : ℕ) → Numeral t n → Signed (45 ∷ t) (neg_ℤ (pos n))

-- the text t spells the integer z, with white space around it or none
pub record SpellsInteger (t : List ℕ) (z : ℤ) : Type 0 where
  pub front : List ℕ
  pub middle : List ℕ
  pub back : List ℕ
  pub whole : t ≡ front ++ middle ++ back
  pub before : AreSpaces front
  pub integer : Signed middle z
  pub behind : AreSpaces back

-- ---- the function

-- the number that t's digits write, where nothing but white space follows them
abbrev pub number_in : ℕ → List ℕ → Option ℕ
number_in base t =
    let n = prefix_len (λ c. is_digit c base) t in
    if nat_lt 0 n && list_all is_space (drop n t) then Some (digits_value base (take n t)) else None

-- the number whose `0` stands before t
abbrev pub number_behind_zero : List ℕ → Option ℕ
number_behind_zero [] = Some 0
number_behind_zero (c ∷ t) = if c == 120 then number_in 16 t else number_in 8 (48 ∷ c ∷ t)

abbrev pub unsigned_value : List ℕ → Option ℕ
unsigned_value [] = None
unsigned_value (c ∷ t) = if c == 48 then number_behind_zero t else number_in 10 (c ∷ t)

abbrev pub with_sign : Bool → ℕ → ℤ
with_sign is_negative n = if is_negative then neg_ℤ (pos n) else pos n

abbrev pub signed_value : List ℕ → Option ℤ
signed_value [] = None
signed_value (c ∷ t) =
    if c == 45 then option_map (with_sign true) (unsigned_value t)
    else (if c == 43 then option_map (with_sign false) (unsigned_value t)
    else option_map (with_sign false) (unsigned_value (c ∷ t)))

-- the integer that a text spells, if it spells one
abbrev pub integer_value : List ℕ → Option ℤ
integer_value t = signed_value (drop (prefix_len is_space t) t)

-- ---- the range of 64 bits

abbrev pub out_of_range : Range
out_of_range = record {}

-- from -2^63 to 2^63 - 1
abbrev pub fits_i64 : ℤ → Bool
fits_i64 (pos n) = nat_lt n (2 ^ 63)
fits_i64 (negsuc n) = nat_lt n (2 ^ 63)

abbrev pub within_i64 : Option ℤ → Result (Option ℤ) Range
within_i64 None = Ok None
within_i64 (Some z) = if fits_i64 z then Ok (Some z) else Err out_of_range

abbrev pub within_u64 : Option ℕ → Result (Option ℕ) Range
within_u64 None = Ok None
within_u64 (Some n) = if nat_lt n (2 ^ 64) then Ok (Some n) else Err out_of_range

-- the integer that a text spells: none, one of 64 bits, or one out of their range
abbrev pub integer_of : List ℕ → Result (Option ℤ) Range
integer_of t = within_i64 (integer_value t)
