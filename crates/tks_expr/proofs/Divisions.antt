-- Divisions that are rounded down.
use Rattle.std.proofs.Common.{◌≡◌, ℕ, zero, suc, ◌<◌, refl, sym, ap, ap₂, ◌∙◌, arith, ℤ, pos, negsuc, neg_ℤ, ◌≢◌, ◌↔◌, inl, inr, subst, ◌≤ℤ◌, ◌-ℤ◌, ◌*ℤ◌, ◌+ℤ◌, ◌<ℤ◌, div-add-mod', mod-lt, FitsSigned, w64, to_z, of_z, to_z-of_z}
use Rattle.std.proofs.Math.IntN.{*ℤ-negsuc, neg_ℤ-neg_ℤ, neg_ℤ-+ℤ, +ℤ_idl}
use Rattle.std.proofs.Math.Nat.{div-eq_of_lt-le}
use Rattle.std.proofs.lemmas.Int.{ints}
use Rattle.std.specs.Int.{w128, int_rem_euclid, IsNonNegative}
use Rattle.tks_expr.specs.Arithmetic.{divided, quotient, remainder, LiesBefore}
use Rattle.tks_expr.proofs.Wide.{wide_negated}

pub left_over : (x : ℤ) (n : ℕ) → 0 < n → int_rem_euclid x (pos n) ≡ x -ℤ divided x n *ℤ pos n
left_over (pos a) n h = omega (arith, ints, div-add-mod' a n)
left_over (negsuc a) n h = omega (arith, ints, div-add-mod' a n, mod-lt a h)

-- the remainder by a negative divisor
left_over_negative : (x : ℤ) (n : ℕ) → neg_ℤ (int_rem_euclid (neg_ℤ x) (pos (suc n))) ≡ remainder x (negsuc n)
left_over_negative x n =
    let product = divided (neg_ℤ x) (suc n) *ℤ pos (suc n) in
    ap neg_ℤ (left_over (neg_ℤ x) (suc n) (omega arith)) ∙ neg_ℤ-+ℤ (neg_ℤ x) (neg_ℤ product)
    ∙ ap (λ z. z -ℤ neg_ℤ product) (neg_ℤ-neg_ℤ x)
    ∙ ap (λ z. x -ℤ z) (sym (*ℤ-negsuc (divided (neg_ℤ x) (suc n)) n))

by_negative : (x y : ℤ) → y <ℤ pos 0 → pos 0 -ℤ int_rem_euclid (pos 0 -ℤ x) (pos 0 -ℤ y) ≡ remainder x y
by_negative x (pos n) h = absurd (omega (arith, ints))
by_negative x (negsuc n) h =
    +ℤ_idl (neg_ℤ (int_rem_euclid (pos 0 -ℤ x) (pos 0 -ℤ negsuc n))) ∙ ap₂ (λ a b. neg_ℤ (int_rem_euclid a b)) (+ℤ_idl (neg_ℤ x)) (+ℤ_idl (pos (suc n))) ∙ left_over_negative x n

-- the same, as 128 bits compute it
pub by_negative_128 : (x y l r q : ℤ) → FitsSigned w64 x → FitsSigned w64 y → l ≡ to_z w64 (of_z w64 x) → r ≡ to_z w64 (of_z w64 y) → y <ℤ pos 0 → FitsSigned w128 q → IsNonNegative q
    → q ≡ int_rem_euclid (to_z w128 (of_z w128 (pos 0 -ℤ to_z w128 (of_z w128 l)))) (to_z w128 (of_z w128 (pos 0 -ℤ to_z w128 (of_z w128 r)))) → to_z w128 (of_z w128 (pos 0 -ℤ to_z w128 (of_z w128 q))) ≡ remainder x y
by_negative_128 x y l r q f g el er h k b e =
    let fits : FitsSigned w128 (pos 0 -ℤ q) = omega (arith, ints) in
    ap (λ z. to_z w128 (of_z w128 (pos 0 -ℤ z))) (to_z-of_z k) ∙ to_z-of_z fits
    ∙ ap (λ z. pos 0 -ℤ z) (e ∙ ap₂ int_rem_euclid (wide_negated x l f el) (wide_negated y r g er)) ∙ by_negative x y h

-- ---- the law

rest_of : (x z r : ℤ) → x ≡ z +ℤ r → r ≡ x -ℤ z
rest_of x z r e = omega (arith, ints)

whole_of : (x z r : ℤ) → r ≡ x -ℤ z → x ≡ z +ℤ r
whole_of x z r e = omega (arith, ints)

-- the quotient by a number is the only one
only_quotient : (x q r : ℤ) (n : ℕ) → x ≡ q *ℤ pos n +ℤ r → pos 0 ≤ℤ r → r <ℤ pos n → q ≡ divided x n
only_quotient (pos a) (pos k) (pos m) n e h g = ap pos (sym (div-eq_of_lt-le {k = k} n (omega (arith, ints)) (omega (arith, ints))))
only_quotient (negsuc a) (negsuc k) (pos m) n e h g = ap negsuc (sym (div-eq_of_lt-le {k = k} n (omega (arith, ints)) (omega (arith, ints))))
only_quotient (pos a) (negsuc k) (pos m) n e h g = absurd (omega (arith, ints))
only_quotient (negsuc a) (pos k) (pos m) n e h g = absurd (omega (arith, ints))
only_quotient x q (negsuc m) n e h g = absurd (omega (arith, ints))

only_quotient_negative : (x q r : ℤ) (n : ℕ) → x ≡ q *ℤ negsuc n +ℤ r → r ≤ℤ pos 0 → negsuc n <ℤ r → q ≡ divided (neg_ℤ x) (suc n)
only_quotient_negative x q r n e h g =
    only_quotient (neg_ℤ x) q (neg_ℤ r) (suc n) (omega (arith, ints)) (omega (arith, ints)) (omega (arith, ints))

is_only : (x y q r : ℤ) → x ≡ q *ℤ y +ℤ r → LiesBefore y r → q ≡ quotient x y
is_only x (pos n) q r e (inl h) = only_quotient x q r n e h.0 h.1
is_only x (pos n) q r e (inr h) = absurd (omega (arith, ints))
is_only x (negsuc n) q r e (inl h) = absurd (omega (arith, ints))
is_only x (negsuc n) q r e (inr h) = only_quotient_negative x q r n e h.0 h.1

euclid_lies : (x : ℤ) (n : ℕ) → 0 < n → (pos 0 ≤ℤ int_rem_euclid x (pos n)) × (int_rem_euclid x (pos n) <ℤ pos n)
euclid_lies (pos a) n h = (omega (arith, ints), omega (arith, ints, mod-lt a h))
euclid_lies (negsuc a) n h = (omega (arith, ints), omega (arith, ints))

turned_lies : (z : ℤ) (n : ℕ) → (pos 0 ≤ℤ z) × (z <ℤ pos (suc n)) → (neg_ℤ z ≤ℤ pos 0) × (negsuc n <ℤ neg_ℤ z)
turned_lies z n h = (omega (arith, ints), omega (arith, ints))

lies_before : (x y : ℤ) → y ≢ pos 0 → LiesBefore y (remainder x y)
lies_before x (pos zero) e = absurd (e refl)
lies_before x (pos (suc n)) e = inl (subst (λ r. (pos 0 ≤ℤ r) × (r <ℤ pos (suc n))) (left_over x (suc n) (omega arith)) (euclid_lies x (suc n) (omega arith)))
lies_before x (negsuc n) e =
    inr (subst (λ r. (r ≤ℤ pos 0) × (negsuc n <ℤ r)) (left_over_negative x n) (turned_lies (int_rem_euclid (neg_ℤ x) (pos (suc n))) n (euclid_lies (neg_ℤ x) (suc n) (omega arith))))

pub only_pair : (x y q r : ℤ) → y ≢ pos 0 → ((x ≡ q *ℤ y +ℤ r) × LiesBefore y r) ↔ ((q ≡ quotient x y) × (r ≡ remainder x y))
only_pair x y q r n = (
  (λ h. let e = is_only x y q r h.0 h.1 in (e, rest_of x (q *ℤ y) r h.0 ∙ ap (λ z. x -ℤ z *ℤ y) e)),
  (λ h. (whole_of x (q *ℤ y) r (h.1 ∙ ap (λ z. x -ℤ z *ℤ y) (sym h.0)), subst (LiesBefore y) (sym h.1) (lies_before x y n))),
)
