-- Integers in decimal, as operators read them.
use Rattle.std.proofs.Common.{rules, ◌≡◌, ℕ, List, Bool, true, false, true≢false, Option, Some, refl, sym, ap, ◌∙◌, ℤ, pos, FitsSigned, w64, of_z, nat_eq, Result, Ok}
use Rattle.std.specs.Cmp.{signed_Decides}
use Rattle.std.specs.Cmp.Lexicographic.{bytes_decides}
use Rattle.std.specs.Fmt.{signed_decimal}
use Rattle.std.specs.declared.cmp.Ordering.{Ordering}
use Rattle.std.specs.Ordering.{int_cmp, int_eq, is_eq, is_lt, is_le, is_gt, is_ge}
use Rattle.std.specs.Prelude.{not}
use Rattle.tks_text.specs.Integer.{integer_of}
use Rattle.tks_text.specs.Text.{same_text}
use Rattle.tks_text.proofs.Decimals.{fits}
use Rattle.tks_text.proofs.Spelled.{decimal_is_read}
use Rattle.tks_text.specs.declared.fault.ScriptFault.{ScriptFault}
use Rattle.tks_expr.specs.Operation.{after, integer_in, integer_read, integers_in, on_integers, truth, truth_of, truth_read, order, compared, compares, of_integers, binary_value, of_integer, unary_value}
use Rattle.tks_expr.specs.declared.operator.Binary.{Binary}
use Rattle.tks_expr.specs.declared.operator.Binary.TheVariants as binary
use Rattle.tks_expr.specs.declared.operator.Unary.{Unary}
use Rattle.tks_expr.specs.declared.operator.Unary.TheVariants as unary

-- an integer is 0 where its bits are
zero_by_bits : (z : ℤ) → FitsSigned w64 z → nat_eq (of_z w64 z) 0 ≡ int_eq z (pos 0)
zero_by_bits z h = search rules

-- an integer in decimal holds as a condition where it isn't 0
pub integer_holds : (z : ℤ) → FitsSigned w64 z → truth_of (signed_decimal z) ≡ Ok (not (nat_eq (of_z w64 z) 0))
integer_holds z h = ap (truth_read (signed_decimal z)) (decimal_is_read z (fits z h)) ∙ ap (λ b. Ok (not b)) (sym (zero_by_bits z h))

-- integers in decimal are read as these integers
pub integer_of_decimal : (z : ℤ) → FitsSigned w64 z → integer_in (signed_decimal z) ≡ Ok z
integer_of_decimal z h = ap (integer_read (signed_decimal z)) (decimal_is_read z (fits z h))

pub integers_of_decimals : (x y : ℤ) → FitsSigned w64 x → FitsSigned w64 y → integers_in (signed_decimal x) (signed_decimal y) ≡ Ok (x, y)
integers_of_decimals x y h k = rw (integer_of_decimal x h, integer_of_decimal y k) refl

-- and stand as these do
pub order_of_decimals : (x y : ℤ) → FitsSigned w64 x → FitsSigned w64 y → order (signed_decimal x) (signed_decimal y) ≡ Ok (int_cmp x y)
order_of_decimals x y h k = rw (decimal_is_read x (fits x h), decimal_is_read y (fits y k)) refl

-- they are the same where these are
pub same_decimals : (x y : ℤ) → FitsSigned w64 x → FitsSigned w64 y → same_text (signed_decimal x) (signed_decimal y) ≡ int_eq x y
same_decimals x y h k = by (same_text (signed_decimal x) (signed_decimal y)) (int_eq x y) refl refl
  where
    apart : same_text (signed_decimal x) (signed_decimal y) ≡ true → x ≡ y
    apart s =
        let same = (bytes_decides (signed_decimal x) (signed_decimal y)).0 s in
        let read : Result.Ok (Option.Some x) ≡ Ok (Some y) = sym (decimal_is_read x (fits x h)) ∙ ap integer_of same ∙ decimal_is_read y (fits y k) in cc

    by : (a b : Bool) → same_text (signed_decimal x) (signed_decimal y) ≡ a → int_eq x y ≡ b → a ≡ b
    by true true s t = refl
    by false false s t = refl
    by true false s t = absurd (true≢false (sym ((signed_Decides x y).1 (apart s)) ∙ t))
    by false true s t = absurd (true≢false (sym ((bytes_decides (signed_decimal x) (signed_decimal y)).1 (ap signed_decimal ((signed_Decides x y).0 t))) ∙ s))

-- an operator on texts that doesn't compare them reads two integers
pub not_compared : (op : Binary) (a b : List ℕ) → compares op ≡ false → binary_value op a b ≡ on_integers a b (of_integers op)
not_compared binary.Multiply a b h = refl
not_compared binary.Divide a b h = refl
not_compared binary.Remainder a b h = refl
not_compared binary.Add a b h = refl
not_compared binary.Subtract a b h = refl
not_compared binary.ShiftLeft a b h = refl
not_compared binary.ShiftRight a b h = refl
not_compared binary.Less a b h = absurd cc
not_compared binary.Greater a b h = absurd cc
not_compared binary.AtMost a b h = absurd cc
not_compared binary.AtLeast a b h = absurd cc
not_compared binary.Equal a b h = absurd cc
not_compared binary.NotEqual a b h = absurd cc
not_compared binary.SameText a b h = absurd cc
not_compared binary.OtherText a b h = absurd cc
not_compared binary.BitAnd a b h = refl
not_compared binary.BitXor a b h = refl
not_compared binary.BitOr a b h = refl

module _ (x y : ℤ) (h : FitsSigned w64 x) (k : FitsSigned w64 y) where
  on_decimals : (next : ℤ → ℤ → Result ℤ ScriptFault) → on_integers (signed_decimal x) (signed_decimal y) next ≡ next x y
  on_decimals next = ap (λ r. after r (λ p. next p.0 p.1)) (integers_of_decimals x y h k)

  compared_decimals : (holds : Ordering → Bool) → compared (signed_decimal x) (signed_decimal y) holds ≡ Ok (truth (holds (int_cmp x y)))
  compared_decimals holds = ap (λ r. after r (λ o. Ok (truth (holds o)))) (order_of_decimals x y h k)

  -- an operator gives for decimals what it gives for the integers
  pub of_decimals : (op : Binary) → binary_value op (signed_decimal x) (signed_decimal y) ≡ of_integers op x y
  of_decimals binary.Multiply = on_decimals (of_integers binary.Multiply)
  of_decimals binary.Divide = on_decimals (of_integers binary.Divide)
  of_decimals binary.Remainder = on_decimals (of_integers binary.Remainder)
  of_decimals binary.Add = on_decimals (of_integers binary.Add)
  of_decimals binary.Subtract = on_decimals (of_integers binary.Subtract)
  of_decimals binary.ShiftLeft = on_decimals (of_integers binary.ShiftLeft)
  of_decimals binary.ShiftRight = on_decimals (of_integers binary.ShiftRight)
  of_decimals binary.Less = compared_decimals is_lt
  of_decimals binary.Greater = compared_decimals is_gt
  of_decimals binary.AtMost = compared_decimals is_le
  of_decimals binary.AtLeast = compared_decimals is_ge
  of_decimals binary.Equal = compared_decimals is_eq
  of_decimals binary.NotEqual = compared_decimals (λ o. not (is_eq o))
  of_decimals binary.SameText = ap (λ b. Ok (truth b)) (same_decimals x y h k)
  of_decimals binary.OtherText = ap (λ b. Ok (truth (not b))) (same_decimals x y h k)
  of_decimals binary.BitAnd = on_decimals (of_integers binary.BitAnd)
  of_decimals binary.BitXor = on_decimals (of_integers binary.BitXor)
  of_decimals binary.BitOr = on_decimals (of_integers binary.BitOr)

-- so does a sign
pub of_decimal : (x : ℤ) → FitsSigned w64 x → (op : Unary) → unary_value op (signed_decimal x) ≡ of_integer op x
of_decimal x h unary.Minus = ap (λ r. after r (of_integer unary.Minus)) (integer_of_decimal x h)
of_decimal x h unary.Plus = ap (λ r. after r (of_integer unary.Plus)) (integer_of_decimal x h)
of_decimal x h unary.Complement = ap (λ r. after r (of_integer unary.Complement)) (integer_of_decimal x h)
of_decimal x h unary.Not = ap (λ r. after r (λ holds. Ok (truth (not holds)))) (ap (truth_read (signed_decimal x)) (decimal_is_read x (fits x h))) ∙ ap (λ b. Ok (truth b)) (twice (int_eq x (pos 0)))
  where
    twice : (b : Bool) → not (not b) ≡ b
    twice true = refl
    twice false = refl
