-- Shifts of integers of 64 bits.
use Rattle.std.proofs.Common.{◌≡◌, ℕ, zero, suc, ◌*◌, ◌/◌, ◌^◌, ◌<◌, ◌≤◌, ◌⊎◌, inl, inr, min, false, refl, sym, ap, ap₂, ◌∙◌, arith, ℤ, pos, negsuc, neg_ℤ, ◌*ℤ◌, FitsSigned, w64, to_z, of_z, to_z-of_z, pow_mono, lt_of_lt_of_le, lt_of_le_of_lt, div-le_self}
use Rattle.std.proofs.lemmas.Grind.{common_steps}
use Rattle.std.proofs.lemmas.Int.{ints, fits_signed_mul}
use Rattle.std.proofs.Math.Nat.{div-eq_of_lt}
use Rattle.std.specs.Int.{w128, int_shr}
use Rattle.tks_text.specs.Integer.{fits_i64}
use Rattle.tks_expr.specs.Arithmetic.{divided}
use Rattle.tks_expr.proofs.Wide.{wide}

-- ---- to the left

far_out : (m : ℕ) → 2 ^ 64 ≤ m → fits_i64 (neg_ℤ (pos m)) ≡ false
far_out zero h = absurd (omega arith)
far_out (suc m) h = grind (arith, common_steps)

large : (a n : ℕ) → 64 ≤ n → 2 ^ 64 ≤ suc a * 2 ^ n
large a n h = let p : 2 ^ 64 ≤ 2 ^ n = pow_mono h in omega arith

-- an integer but 0, 64 places to the left or more, is out of range
pub far_left : (x : ℤ) (n : ℕ) → (of_z w64 x ≡ 0 → ⊥) → 64 ≤ n → fits_i64 (x *ℤ pos (2 ^ n)) ≡ false
far_left (pos zero) n e h = absurd (e refl)
far_left (pos (suc a)) n e h = let l = large a n h in grind (arith, common_steps)
far_left (negsuc a) n e h = far_out (suc a * 2 ^ n) (large a n h)

-- and less than 64 places to the left it has 128 bits
pub near_left : (x : ℤ) (n : ℕ) → FitsSigned w64 x → n < 64 → FitsSigned w128 (x *ℤ pos (2 ^ n))
near_left x n f h =
    let p : n ≤ 63 = omega arith in
    fits_signed_mul w128 x (pos (2 ^ n)) (2 ^ 63) (2 ^ 63) (omega (arith, ints)) (pow_mono p) (omega arith)

power_fits : (n : ℕ) → n < 64 → FitsSigned w128 (pos (2 ^ n))
power_fits n h =
    let p : n ≤ 63 = omega arith in
    let l : 2 ^ n ≤ 2 ^ 63 = pow_mono p in
    omega (arith, ints)

-- the factors, as 128 bits have them
pub factors : (x l p : ℤ) (n : ℕ) → FitsSigned w64 x → n < 64 → l ≡ to_z w64 (of_z w64 x) → p ≡ pos (2 ^ n) → to_z w128 (of_z w128 l) *ℤ to_z w128 (of_z w128 p) ≡ x *ℤ pos (2 ^ n)
factors x l p n f h e g = ap₂ ◌*ℤ◌ (wide x l f e) (ap (λ z. to_z w128 (of_z w128 z)) g ∙ to_z-of_z (power_fits n h))

-- ---- to the right

none_left : (a m n : ℕ) → a < 2 ^ 63 → 63 ≤ m → 63 ≤ n → a / 2 ^ m ≡ a / 2 ^ n
none_left a m n f h k = div-eq_of_lt (lt_of_lt_of_le f (pow_mono h)) ∙ sym (div-eq_of_lt (lt_of_lt_of_le f (pow_mono k)))

either : (n : ℕ) → (min n 63 ≡ n) ⊎ ((63 ≤ min n 63) × (63 ≤ n))
either n = grind arith

at_most_63 : (a n : ℕ) → a < 2 ^ 63 → a / 2 ^ min n 63 ≡ a / 2 ^ n
at_most_63 a n f = elim (either n) [ inl e ↦ ap (λ m. a / 2 ^ m) e | inr h ↦ none_left a (min n 63) n f h.0 h.1 ]

divided_at_most : (x : ℤ) (n : ℕ) → FitsSigned w64 x → int_shr x (min n 63) ≡ divided x (2 ^ n)
divided_at_most (pos a) n f = ap pos (at_most_63 a n f.sfits)
divided_at_most (negsuc a) n f = ap negsuc (at_most_63 a n f.sfits)

shifted_fits : (x : ℤ) (n : ℕ) → FitsSigned w64 x → FitsSigned w64 (int_shr x n)
shifted_fits (pos a) n f = record { sfits = lt_of_le_of_lt (div-le_self a (2 ^ n)) f.sfits }
shifted_fits (negsuc a) n f = record { sfits = lt_of_le_of_lt (div-le_self a (2 ^ n)) f.sfits }

pub to_the_right : (x : ℤ) (n m : ℕ) → FitsSigned w64 x → m ≡ min n 63 → to_z w64 (of_z w64 (int_shr (to_z w64 (of_z w64 x)) m)) ≡ divided x (2 ^ n)
to_the_right x n m f e =
    ap (λ z. to_z w64 (of_z w64 (int_shr z m))) (to_z-of_z f) ∙ to_z-of_z (shifted_fits x m f) ∙ ap (int_shr x) e ∙ divided_at_most x n f
