-- Numbers and their digits.
use Rattle.std.proofs.Common.{◌≡◌, ℕ, zero, suc, ◌+◌, ◌*◌, ◌^◌, ◌<◌, ◌≤◌, Bool, true, false, ltb, List, [], ◌∷◌, length, get_or, drop, Option, Some, None, Result, Ok, Err, refl, sym, ap, ◌∙◌, arith, ℤ, pos, negsuc, FitsSigned, w64}
use Rattle.std.proofs.lemmas.Grind.{common_steps}
use Rattle.std.specs.Char.{digit_value}
use Rattle.std.specs.Fmt.{decimal, signed_decimal}
use Rattle.std.specs.Option.{option_map}
use Rattle.std.specs.Str.Parse.{AllDigits, digits_value, digits_value_after}
use Rattle.std.proofs.Math.Nat.{le-mul_of_pos_right}
use Rattle.std.proofs.Math.Seq.{drop-cons}
use Rattle.std.proofs.lemmas.Bool.{ltb-false, cond_both, cond-false}
use Rattle.std.proofs.lemmas.Fmt.{decimal_is_IsNumeral}
use Rattle.std.proofs.lemmas.Str.Parse.{digit_from_value}
use Rattle.tks_text.specs.Text.{is_text_byte, IsText}
use Rattle.tks_text.specs.Integer.{fits_i64, with_sign, within_u64, within_i64, out_of_range}
use Rattle.tks_text.specs.declared.integer.Range.{Range}

-- more digits make no smaller number
pub digits_grow : (base n : ℕ) (ds : List ℕ) → 1 ≤ base → n ≤ digits_value_after base n ds
digits_grow base n [] h = omega arith
digits_grow base n (d ∷ ds) h = omega (arith, le-mul_of_pos_right {m = base} n h, digits_grow base (n * base + digit_value d) ds h)

pub stays_large : (base n i : ℕ) (ds : List ℕ) → 1 ≤ base → i < length ds → digits_value_after base n (drop i ds) ≡ digits_value base ds → (n * base + digit_value (get_or ds i 0) < 2 ^ 64 → ⊥) → digits_value base ds < 2 ^ 64 → ⊥
stays_large base n i ds h lt e above small =
    let next = n * base + digit_value (get_or ds i 0) in
    let all : digits_value_after base next (drop (suc i) ds) ≡ digits_value base ds = ap (digits_value_after base n) (sym (drop-cons ds i 0 lt)) ∙ e in
    above (omega (arith, digits_grow base next (drop (suc i) ds) h, all, small))

digit_is_text : (c : ℕ) → 48 ≤ c → c ≤ 57 → is_text_byte c ≡ true
digit_is_text c h k = grind (arith, common_steps)

pub digits_are_text : (ds : List ℕ) → AllDigits 10 ds → IsText ds
digits_are_text [] h = tt
digits_are_text (d ∷ ds) h = let r = digit_from_value d h.0 in (digit_is_text d r.0 r.1, digits_are_text ds h.1)

pub decimal_is_text : (z : ℤ) → FitsSigned w64 z → IsText (signed_decimal z)
decimal_is_text (pos n) h = digits_are_text (decimal n) (decimal_is_IsNumeral n (omega (arith, h))).0.1
decimal_is_text (negsuc n) h = (refl, digits_are_text (decimal (suc n)) (decimal_is_IsNumeral (suc n) (omega (arith, h))).0.1)

-- a number below 2^64, or not
within_case : {P : Type 0} (n : ℕ) (r : Result (Option ℕ) Range) → within_u64 (Some n) ≡ r → (Ok (Some n) ≡ r → P) → (2 ^ 64 ≤ n → Err out_of_range ≡ r → P) → P
within_case {P} n r e below above = cond_both (ltb n (2 ^ 64)) (Ok (Some n)) (Err out_of_range) (λ x. x ≡ r → P) (λ t. below) (λ t. above (ltb-false n (2 ^ 64) t)) e

-- what was read says of the number
pub no_number : (is_negative : Bool) (o : Option ℕ) → within_u64 o ≡ Ok None → within_i64 (option_map (with_sign is_negative) o) ≡ Ok None
no_number is_negative None e = refl
no_number is_negative (Some n) e = within_case n (Ok None) e (λ h. absurd cc) (λ k h. absurd cc)

pub one_number : (o : Option ℕ) (n : ℕ) → within_u64 o ≡ Ok (Some n) → o ≡ Some n
one_number None n e = cc
one_number (Some m) n e = within_case m (Ok (Some n)) e (λ h. cc) (λ k h. absurd cc)

large : (is_negative : Bool) (n : ℕ) → 2 ^ 64 ≤ n → fits_i64 (with_sign is_negative n) ≡ false
large false n h = grind (arith, common_steps)
large true zero h = absurd (omega arith)
large true (suc n) h = grind (arith, common_steps)

pub too_large : (is_negative : Bool) (o : Option ℕ) (e : Range) → within_u64 o ≡ Err e → within_i64 (option_map (with_sign is_negative) o) ≡ Err e
too_large is_negative None e h = absurd cc
too_large is_negative (Some n) e h = within_case n (Err e) h (λ k. absurd cc) (λ k q. cond-false (fits_i64 (with_sign is_negative n)) (Ok (Some (with_sign is_negative n))) (Err out_of_range) (large is_negative n k) ∙ cc)
