-- Numbers of a line.
use Rattle.std.proofs.Common.{◌≡◌, ◌<◌, ◌≤◌, ◌^◌, ◌+◌, ℕ, suc, Bool, true, false, cond, List, [], ◌∷◌, length, Option, Some, None, SomeIff, refl, ap, arith}
use Rattle.std.proofs.Math.Nat.{pow-le-pow_right}
use Rattle.std.proofs.lemmas.Bool.{and_parts, leb-true, eqb-true, ltb-true}
use Rattle.std.proofs.lemmas.Int.Digits.{digits_value-lt}
use Rattle.std.specs.Char.{is_digit, digit_value}
use Rattle.std.specs.List.{prefix_len}
use Rattle.std.specs.Str.Parse.{AllDigits, digits_value}
use Rattle.std.specs.Fmt.{decimal}
use Rattle.std.proofs.lemmas.Fmt.{decimal_is_IsNumeral}
use Rattle.tks_text.specs.Text.{IsText}
use Rattle.tks_text.proofs.Integers.{digits_are_text}
use Rattle.tks_desk.specs.Words.{is_number, number_in}

abbrev digit : ℕ → Bool
digit c = is_digit c 10

-- where all pass, all are digits
all_digits : (word : List ℕ) → prefix_len digit word ≡ length word → AllDigits 10 word
all_digits [] h = tt
all_digits (c ∷ word) h = by (digit c) refl h (all_digits word)
  where
    by : (t : Bool) → digit c ≡ t → cond t (1 + prefix_len digit word) 0 ≡ suc (length word) → (prefix_len digit word ≡ length word → AllDigits 10 word) → AllDigits 10 (c ∷ word)
    by true e h rest = (ltb-true (digit_value c) 10 e, rest (omega (arith, h)))
    by false e h rest = absurd (omega (arith, h))

-- 19 digits write a number below 2^64
pub number_fits : (word : List ℕ) → is_number word ≡ true → digits_value 10 word < 2 ^ 64
number_fits word h =
    let parts = and_parts _ _ h in
    let front = and_parts _ _ parts.0 in
    let few : length word ≤ 19 = leb-true (length word) 19 front.1 in
    let all = all_digits word (eqb-true (prefix_len digit word) (length word) parts.1) in
    let below : digits_value 10 word < 10 ^ length word = digits_value-lt 10 word all in
    let most : 10 ^ length word ≤ 10 ^ 19 = pow-le-pow_right (omega arith) few in
    omega (arith, below, most)

-- so its value is found
pub value_is : (word : List ℕ) (found : Option ℕ) → is_number word ≡ true → SomeIff found (digits_value 10 word < 2 ^ 64) (digits_value 10 word) → found ≡ number_in word
value_is word None h so = absurd (so (number_fits word h))
value_is word (Some n) h so = rw h (ap Some so.1)

-- what tells a number is a text
pub number_is_text : (n : ℕ) → n < 2 ^ 64 → IsText (decimal n)
number_is_text n h = digits_are_text (decimal n) (decimal_is_IsNumeral n h).0.1
