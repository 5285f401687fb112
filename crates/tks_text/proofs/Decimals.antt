-- Decimals, and the integers that they are of.
use Rattle.std.proofs.Common.{◌≡◌, true, ℕ, suc, ◌≤◌, ◌<◌, ◌^◌, List, [], ◌∷◌, length, get_or, sym, ap, ◌∙◌, arith, refl, ℤ, pos, negsuc, neg_ℤ, FitsSigned, w64, Ok, Some}
use Rattle.std.proofs.lemmas.Bool.{lt-ltb}
use Rattle.std.proofs.lemmas.Fmt.{decimal_digit, decimal-digits_value}
use Rattle.std.proofs.lemmas.Str.Parse.{numerals_by_value, tells_digits}
use Rattle.std.specs.Fmt.{decimal, signed_decimal}
use Rattle.std.specs.Str.Parse.{digits_value}
use Rattle.tks_text.specs.Integer.{AreDigits, fits_i64, integer_of}
use Rattle.tks_text.proofs.Escaped.{digits_pass}
use Rattle.tks_text.proofs.Spelled.{decimal_is_read}

-- digits alone, of which the first isn't `0`, are the decimal of the number that they write
pub decimal_written : (t : List ℕ) → AreDigits 10 t → digits_value 10 t < 10 ^ 18 → 1 ≤ length t → (get_or t 0 0 ≡ 48 → ⊥) → decimal (digits_value 10 t) ≡ t
decimal_written t digits small some other =
    decimal-digits_value (numerals_by_value _ tells_digits) t (digits_pass 10 t digits) (omega (arith, some)) (λ e. absurd (other e)) (omega (arith, small))

-- and so is `0`
pub zero_written : (t : List ℕ) → length t ≡ 1 → get_or t 0 0 ≡ 48 → t ≡ decimal 0
zero_written [] one zero = absurd (omega (arith, one))
zero_written (c ∷ []) one zero = rw zero (sym (decimal_digit 0 (omega arith)))
zero_written (c ∷ d ∷ t) one zero = absurd (omega (arith, one))

-- a sign before one makes that of the opposite
pub negative_written : (t : List ℕ) (z : ℤ) → t ≡ signed_decimal z → (n : ℕ) → z ≡ pos (suc n) → 45 ∷ t ≡ signed_decimal (neg_ℤ z)
negative_written t z is n more = rw (is, more) refl

pub fits : (z : ℤ) → FitsSigned w64 z → fits_i64 z ≡ true
fits (pos n) h = lt-ltb n (2 ^ 63) (omega (arith, h))
fits (negsuc n) h = lt-ltb n (2 ^ 63) (omega (arith, h))

-- the decimal of an integer of 64 bits is read as that
pub decimal_of_an_integer : (t : List ℕ) (z : ℤ) → t ≡ signed_decimal z → FitsSigned w64 z → Ok (Some z) ≡ integer_of t
decimal_of_an_integer t z is h = sym (ap integer_of is ∙ decimal_is_read z (fits z h))
