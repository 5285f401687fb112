-- Numbers in order: those that rise and are the same ones are what putting each in its place gives.
use Rattle.std.proofs.Common.{◌≡◌, ◌≤◌, ◌<◌, ℕ, suc, Bool, true, false, ◌==◌, if◌then◌else◌, List, [], ◌∷◌, length, refl, sym, ap, subst, ◌∙◌, inl, inr, arith}
use Rattle.std.specs.Prelude.{nat_le, ◌+◌, get_or}
use Rattle.std.specs.List.{sum_by}
use Rattle.std.specs.List.Sorted.{IsPermutation, IsSorted, IsNonDecreasing}
use Rattle.std.specs.Ordering.{nat_cmp}
use Rattle.std.proofs.lemmas.Bool.{cases_lt, leb-true, leb-false, eq-eqb, ne_eqb}
use Rattle.std.proofs.lemmas.List.Recursion.{is_sum_by}
use Rattle.std.proofs.lemmas.List.Sorted.{sum_by-IsPermutation, IsNonDecreasingBy-from_sort}
use Rattle.tks_cmd.specs.After.{inserted, in_order}

-- each is at least the one before it, and the first at least this one
abbrev RisesFrom : ℕ → List ℕ → Type 0
RisesFrom low [] = Unit {0}
RisesFrom low (n ∷ ns) = (low ≤ n) × RisesFrom n ns

-- how often a number stands among others
abbrev times : ℕ → List ℕ → ℕ
times k [] = 0
times k (n ∷ ns) = if n == k then suc (times k ns) else times k ns

-- ---- what rises is told by how often each number stands in it

times_below : (k low : ℕ) (ns : List ℕ) → k < low → RisesFrom low ns → times k ns ≡ 0
times_below k low [] less rises = refl
times_below k low (n ∷ ns) less rises =
    let other : (n == k) ≡ false = ne_eqb n k (λ e. omega (arith, less, rises.0, e)) in
    let above : k < n = omega (arith, less, rises.0) in
    rw other (times_below k n ns above rises.1)

times_first : (n : ℕ) (ns : List ℕ) → times n (n ∷ ns) ≡ suc (times n ns)
times_first n ns = let same : (n == n) ≡ true = eq-eqb n n refl in rw same refl

-- a number before all of those that rise isn't among them
differs : {X : Type 0} (k n : ℕ) (ks ns : List ℕ) → k < n → RisesFrom n ns → times k (k ∷ ks) ≡ times k (n ∷ ns) → X
differs k n ks ns less rises same =
    let first = times_first k ks in
    let below = times_below k n (n ∷ ns) less (omega arith, rises) in
    absurd (omega (arith, first, below, same))

behind_same : (k n : ℕ) (ns ms : List ℕ) → times k (n ∷ ns) ≡ times k (n ∷ ms) → times k ns ≡ times k ms
behind_same k n ns ms = by (n == k)
  where
    by : (b : Bool) → (if b then suc (times k ns) else times k ns) ≡ (if b then suc (times k ms) else times k ms) → times k ns ≡ times k ms
    by true e = omega (arith, e)
    by false e = e

-- two that rise and have the same numbers, by which of their first ones is less
module _ (n m : ℕ) (ns ms : List ℕ) (rises : RisesFrom n ns) (rises' : RisesFrom m ms) (same : (k : ℕ) → times k (n ∷ ns) ≡ times k (m ∷ ms)) where
  not_less : n < m → ⊥
  not_less less = differs n m ns ms less rises' (same n)

  not_more : m < n → ⊥
  not_more more = differs m n ms ns more rises (sym (same m))

  first_same : m ≡ n
  first_same = elim (cases_lt n m) [
    | inl less ↦ absurd (not_less less)
    | inr most ↦ elim (cases_lt m n) [
      | inl more ↦ absurd (not_more more)
      | inr least ↦ omega (arith, most, least)
    ]
  ]

  rest_same : (k : ℕ) → times k ns ≡ times k ms
  rest_same k = behind_same k n ns ms (subst (λ f. times k (n ∷ ns) ≡ times k (f ∷ ms)) first_same (same k))

one_so : (ns ms : List ℕ) (low low' : ℕ) → RisesFrom low ns → RisesFrom low' ms → ((k : ℕ) → times k ns ≡ times k ms) → ns ≡ ms
one_so [] [] low low' h h' same = refl
one_so [] (m ∷ ms) low low' h h' same = let first = times_first m ms in let none = same m in absurd (omega (arith, first, none))
one_so (n ∷ ns) [] low low' h h' same = let first = times_first n ns in let none = same n in absurd (omega (arith, first, none))
one_so (n ∷ ns) (m ∷ ms) low low' h h' same =
    ap (λ l. n ∷ l) (one_so ns ms n m h.1 h'.1 (rest_same n m ns ms h.1 h'.1 same)) ∙ ap (λ f. f ∷ ms) (sym (first_same n m ns ms h.1 h'.1 same))

-- ---- numbers put in order

inserted_rises : (n low : ℕ) (ns : List ℕ) → low ≤ n → RisesFrom low ns → RisesFrom low (inserted n ns)
inserted_rises n low [] least rises = (least, tt)
inserted_rises n low (m ∷ ns) least rises = by (nat_le n m) refl (λ more. inserted_rises n m ns more rises.1)
  where
    by : (b : Bool) → nat_le n m ≡ b → (m ≤ n → RisesFrom m (inserted n ns)) → RisesFrom low (if b then n ∷ m ∷ ns else m ∷ inserted n ns)
    by true e behind = (least, (leb-true n m e, rises.1))
    by false e behind = let more = leb-false n m e in (rises.0, behind (omega (arith, more)))

in_order_rises : (ns : List ℕ) → RisesFrom 0 (in_order ns)
in_order_rises [] = tt
in_order_rises (n ∷ ns) = inserted_rises n 0 (in_order ns) (omega arith) (in_order_rises ns)

inserted_times : (k n : ℕ) (ns : List ℕ) → times k (inserted n ns) ≡ times k (n ∷ ns)
inserted_times k n [] = refl
inserted_times k n (m ∷ ns) = by (nat_le n m) (inserted_times k n ns)
  where
    swapped : (b c : Bool) (t : ℕ) → (if b then suc (if c then suc t else t) else (if c then suc t else t)) ≡ (if c then suc (if b then suc t else t) else (if b then suc t else t))
    swapped true true t = refl
    swapped true false t = refl
    swapped false true t = refl
    swapped false false t = refl

    by : (b : Bool) → times k (inserted n ns) ≡ times k (n ∷ ns) → times k (if b then n ∷ m ∷ ns else m ∷ inserted n ns) ≡ times k (n ∷ m ∷ ns)
    by true behind = refl
    by false behind = ap (λ t. if m == k then suc t else t) behind ∙ swapped (m == k) (n == k) (times k ns)

in_order_times : (k : ℕ) (ns : List ℕ) → times k (in_order ns) ≡ times k ns
in_order_times k [] = refl
in_order_times k (n ∷ ns) = inserted_times k n (in_order ns) ∙ ap (λ t. if n == k then suc t else t) (in_order_times k ns)

-- ---- what a sort says

rises_from : (low : ℕ) (ns : List ℕ) → ((d : ℕ) → 0 < length ns → low ≤ get_or ns 0 d) → IsNonDecreasing ns → RisesFrom low ns
rises_from low [] least up = tt
rises_from low (n ∷ ns) least up =
    (least 0 (omega arith), rises_from n ns (λ d some. up 0 1 d (omega arith) (omega (arith, some))) (λ i j d le lt. up (suc i) (suc j) d (omega (arith, le)) (omega (arith, lt))))

times_is : (k : ℕ) (ns : List ℕ) → times k ns ≡ sum_by (λ n. if n == k then 1 else 0) ns
times_is k = is_sum_by (times k) (λ n. if n == k then 1 else 0) refl (λ n ns. by (n == k) (times k ns))
  where
    by : (b : Bool) (t : ℕ) → (if b then suc t else t) ≡ (if b then 1 else 0) + t
    by true t = omega arith
    by false t = omega arith

pub sorted_is : (ns found : List ℕ) → IsPermutation ns found → IsSorted nat_cmp found → found ≡ in_order ns
sorted_is ns found same sorted =
    one_so found (in_order ns) 0 0 (rises_from 0 found (λ d some. omega arith) (IsNonDecreasingBy-from_sort (λ n. n) found sorted)) (in_order_rises ns)
    (λ k. times_is k found ∙ sum_by-IsPermutation (λ n. if n == k then 1 else 0) ns found same ∙ sym (times_is k ns) ∙ sym (in_order_times k ns))
