-- Bits of integers in two's complement, and those of 64 bits.
use Rattle.std.proofs.Common.{◌≡◌, ℕ, zero, suc, ◌+◌, ◌-◌, ◌%◌, ◌^◌, ◌<◌, min, max, refl, sym, ap, ap₂, ◌∙◌, arith, ℤ, pos, negsuc, FitsSigned, w64, to_z, of_z, to_z-of_z, bit_and, bit_or, bit_xor, lt_of_le_of_lt, lt_of_lt_of_le, pow_mono, pow-suc}
use Rattle.std.specs.Int.{bit_at}
use Rattle.std.specs.Int.Bits.{and_le_l, or_lt, xor_lt, and_lt}
use Rattle.std.proofs.lemmas.Int.{ints}
use Rattle.std.proofs.lemmas.Nat.Bits.{bit_at-lt, bit_at_and, bit_at_or, bit_at_xor, bit_at_not, same_from_bits, same_from_bits_below, bit_at_above}
use Rattle.tks_expr.specs.Arithmetic.{bit, bits_without, complement, bits_of_both, bits_of_any, bits_of_one}

-- ---- bits

pub bit_below : (x : ℤ) (k : ℕ) → bit x k < 2
bit_below (pos n) k = bit_at-lt n k
bit_below (negsuc n) k = omega arith

pub bit_complement : (x : ℤ) (k : ℕ) → bit (complement x) k ≡ 1 - bit x k
bit_complement (pos n) k = refl
bit_complement (negsuc n) k = omega (arith, bit_at-lt n k)

without : (x y : ℕ) → x < 2 → y < 2 → (x + min x y) % 2 ≡ min x (1 - y)
without x y h k = omega arith

bit_without : (a b k : ℕ) → bit_at (bits_without a b) k ≡ min (bit_at a k) (1 - bit_at b k)
bit_without a b k = rw (bit_at_xor, bit_at_and) (without (bit_at a k) (bit_at b k) (bit_at-lt a k) (bit_at-lt b k))

neither : (x y : ℕ) → x < 2 → y < 2 → 1 - max x y ≡ min (1 - x) (1 - y)
neither x y h k = omega arith

pub bit_both : (x y : ℤ) (k : ℕ) → bit (bits_of_both x y) k ≡ min (bit x k) (bit y k)
bit_both (pos a) (pos b) k = bit_at_and a b k
bit_both (pos a) (negsuc b) k = bit_without a b k
bit_both (negsuc a) (pos b) k = omega (arith, bit_without b a k)
bit_both (negsuc a) (negsuc b) k = rw bit_at_or (neither (bit_at a k) (bit_at b k) (bit_at-lt a k) (bit_at-lt b k))

any : (x y : ℕ) → x < 2 → y < 2 → 1 - min (1 - x) (1 - y) ≡ max x y
any x y h k = omega arith

pub bit_any : (x y : ℤ) (k : ℕ) → bit (bits_of_any x y) k ≡ max (bit x k) (bit y k)
bit_any x y k =
    let e : bit (bits_of_any x y) k ≡ 1 - min (1 - bit x k) (1 - bit y k) =
    bit_complement (bits_of_both (complement x) (complement y)) k ∙ ap (λ n. 1 - n) (bit_both (complement x) (complement y) k ∙ ap₂ min (bit_complement x k) (bit_complement y k)) in
    e ∙ any (bit x k) (bit y k) (bit_below x k) (bit_below y k)

one_turned : (x y : ℕ) → x < 2 → y < 2 → 1 - (x + y) % 2 ≡ (x + (1 - y)) % 2
one_turned x y h k = omega arith

both_turned : (x y : ℕ) → x < 2 → y < 2 → (x + y) % 2 ≡ ((1 - x) + (1 - y)) % 2
both_turned x y h k = omega arith

pub bit_one : (x y : ℤ) (k : ℕ) → bit (bits_of_one x y) k ≡ (bit x k + bit y k) % 2
bit_one (pos a) (pos b) k = bit_at_xor a b k
bit_one (pos a) (negsuc b) k = rw bit_at_xor (one_turned (bit_at a k) (bit_at b k) (bit_at-lt a k) (bit_at-lt b k))
bit_one (negsuc a) (pos b) k = omega (arith, bit_at_xor a b k, one_turned (bit_at b k) (bit_at a k) (bit_at-lt b k) (bit_at-lt a k))
bit_one (negsuc a) (negsuc b) k = rw bit_at_xor (both_turned (bit_at a k) (bit_at b k) (bit_at-lt a k) (bit_at-lt b k))

-- ---- integers with the same bits

turned_same : (m n : ℕ) → m < 2 → n < 2 → 1 - m ≡ 1 - n → m ≡ n
turned_same m n h k e = omega arith

below_power : (n : ℕ) → n < 2 ^ n
below_power zero = omega arith
below_power (suc n) = omega (arith, below_power n, pow-suc 2 n)

sign_told : (a b : ℕ) → ((k : ℕ) → bit (pos a) k ≡ bit (negsuc b) k) → ⊥
sign_told a b e =
    let h : a < 2 ^ (a + b) = lt_of_lt_of_le (below_power a) (pow_mono (omega arith)) in
    let g : b < 2 ^ (a + b) = lt_of_lt_of_le (below_power b) (pow_mono (omega arith)) in
    omega (arith, e (a + b), bit_at_above a (a + b) (a + b) h (omega arith), bit_at_above b (a + b) (a + b) g (omega arith))

pub same_bits : (x y : ℤ) → ((k : ℕ) → bit x k ≡ bit y k) → x ≡ y
same_bits (pos a) (pos b) e = ap pos (same_from_bits a b e)
same_bits (pos a) (negsuc b) e = absurd (sign_told a b e)
same_bits (negsuc a) (pos b) e = absurd (sign_told b a (λ k. sym (e k)))
same_bits (negsuc a) (negsuc b) e = ap negsuc (same_from_bits a b (λ k. turned_same (bit_at a k) (bit_at b k) (bit_at-lt a k) (bit_at-lt b k) (e k)))

-- ---- 64 bits

of_bits : (x : ℤ) (k : ℕ) → FitsSigned w64 x → k < 64 → bit_at (of_z w64 x) k ≡ bit x k
of_bits (pos n) k f h = refl
of_bits (negsuc n) k f h =
    let e : 2 ^ 64 - suc n ≡ 2 ^ 64 - 1 - n = omega arith in
    ap (λ m. bit_at m k) e ∙ bit_at_not w64 n k (omega (arith, ints)) h

-- a number of 64 bits with an integer's bits is that integer
made_of_bits : (x : ℤ) (m : ℕ) → FitsSigned w64 x → m < 2 ^ 64 → ((k : ℕ) → k < 64 → bit_at m k ≡ bit x k) → to_z w64 m ≡ x
made_of_bits x m f h e =
    let below : of_z w64 x < 2 ^ 64 = omega (arith, ints) in
    ap (to_z w64) (same_from_bits_below 64 m (of_z w64 x) h below (λ k g. e k g ∙ sym (of_bits x k f g))) ∙ to_z-of_z f

without_below : (a b : ℕ) → a < 2 ^ 63 → bits_without a b < 2 ^ 63
without_below a b h = xor_lt 63 a (bit_and a b) h (lt_of_le_of_lt (and_le_l a b) h)

complement_fits : (x : ℤ) → FitsSigned w64 x → FitsSigned w64 (complement x)
complement_fits (pos n) f = record { sfits = f.sfits }
complement_fits (negsuc n) f = record { sfits = f.sfits }

both_fits : (x y : ℤ) → FitsSigned w64 x → FitsSigned w64 y → FitsSigned w64 (bits_of_both x y)
both_fits (pos a) (pos b) f g = record { sfits = lt_of_le_of_lt (and_le_l a b) f.sfits }
both_fits (pos a) (negsuc b) f g = record { sfits = without_below a b f.sfits }
both_fits (negsuc a) (pos b) f g = record { sfits = without_below b a g.sfits }
both_fits (negsuc a) (negsuc b) f g = record { sfits = or_lt 63 a b f.sfits g.sfits }

one_fits : (x y : ℤ) → FitsSigned w64 x → FitsSigned w64 y → FitsSigned w64 (bits_of_one x y)
one_fits (pos a) (pos b) f g = record { sfits = xor_lt 63 a b f.sfits g.sfits }
one_fits (pos a) (negsuc b) f g = record { sfits = xor_lt 63 a b f.sfits g.sfits }
one_fits (negsuc a) (pos b) f g = record { sfits = xor_lt 63 a b f.sfits g.sfits }
one_fits (negsuc a) (negsuc b) f g = record { sfits = xor_lt 63 a b f.sfits g.sfits }

module _ (x y : ℤ) (f : FitsSigned w64 x) (g : FitsSigned w64 y) where
  left_below : of_z w64 x < 2 ^ 64
  left_below = omega (arith, ints)

  right_below : of_z w64 y < 2 ^ 64
  right_below = omega (arith, ints)

  pub both_of_64 : to_z w64 (bit_and (of_z w64 x) (of_z w64 y)) ≡ bits_of_both x y
  both_of_64 = made_of_bits (bits_of_both x y) (bit_and (of_z w64 x) (of_z w64 y)) (both_fits x y f g) (and_lt 64 (of_z w64 x) (of_z w64 y) left_below right_below)
      (λ k h. bit_at_and (of_z w64 x) (of_z w64 y) k ∙ ap₂ min (of_bits x k f h) (of_bits y k g h) ∙ sym (bit_both x y k))

  pub any_of_64 : to_z w64 (bit_or (of_z w64 x) (of_z w64 y)) ≡ bits_of_any x y
  any_of_64 = made_of_bits (bits_of_any x y) (bit_or (of_z w64 x) (of_z w64 y)) (complement_fits (bits_of_both (complement x) (complement y)) (both_fits (complement x) (complement y) (complement_fits x f) (complement_fits y g))) (or_lt 64 (of_z w64 x) (of_z w64 y) left_below right_below)
      (λ k h. bit_at_or (of_z w64 x) (of_z w64 y) k ∙ ap₂ max (of_bits x k f h) (of_bits y k g h) ∙ sym (bit_any x y k))

  pub one_of_64 : to_z w64 (bit_xor (of_z w64 x) (of_z w64 y)) ≡ bits_of_one x y
  one_of_64 = made_of_bits (bits_of_one x y) (bit_xor (of_z w64 x) (of_z w64 y)) (one_fits x y f g) (xor_lt 64 (of_z w64 x) (of_z w64 y) left_below right_below)
      (λ k h. bit_at_xor (of_z w64 x) (of_z w64 y) k ∙ ap₂ (λ a b. (a + b) % 2) (of_bits x k f h) (of_bits y k g h) ∙ sym (bit_one x y k))
