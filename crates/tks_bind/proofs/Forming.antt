-- Bindings differ, whatever is done to them.
use Rattle.std.specs.Bool as tests
use Rattle.std.specs.Cmp.Lexicographic.{bytes_decides}
use Rattle.std.specs.Prelude.{◌||◌, not, nat_lt}
use Rattle.std.specs.List.{list_all, remove}
use Rattle.std.proofs.Common.{◌≡◌, ℕ, ◌+◌, ◌==◌, Bool, true, false, List, [], ◌∷◌, refl, sym, true≢false, arith}
use Rattle.std.proofs.lemmas.Bool.Decides.{Decides-and, nat_tests}
use Rattle.tks_text.proofs.Texts.{both}
use Rattle.tks_text.specs.Text.{same_text}
use Rattle.tks_event.specs.Equality.{equal_patterns}
use Rattle.tks_event.specs.declared.pattern.Pattern.{Pattern}
use Rattle.tks_event.proofs.Equal.{equal_so}
use Rattle.tks_bind.specs.declared.binding.Binding.{Binding}
use Rattle.tks_bind.specs.Binding.{is_for, placed}
use Rattle.tks_bind.specs.Distinct.{all_differ}
use Rattle.tks_bind.specs.WellFormed.{differ, are_bindings, others_are_below}
use Rattle.tks_bind.proofs.Differing.{join, all_removed, differ_removed}

-- whether numbers are below one
abbrev are_below : ℕ → List Binding → Bool
are_below next bs = list_all (λ b. nat_lt b.number next) bs

is_for_so : (tag : List ℕ) (s : List Pattern) (b : Binding) → tests.Decides (is_for tag s b) ((b.tag ≡ tag) × (b.sequence ≡ s))
is_for_so tag s b = Decides-and (same_text b.tag tag) (equal_patterns b.sequence s) (bytes_decides b.tag tag) (equal_so b.sequence s)

-- the tag and the sequence of one that is not of those of another
is_other : (b c : Binding) → is_for b.tag b.sequence c ≡ false → is_for c.tag c.sequence b ≡ false
is_other b c h = by (is_for c.tag c.sequence b) refl
  where
    by : (t : Bool) → is_for c.tag c.sequence b ≡ t → is_for c.tag c.sequence b ≡ false
    by true e =
        let same = (is_for_so c.tag c.sequence b).0 e in
        let there = (is_for_so b.tag b.sequence c).1 (sym same.0, sym same.1) in
        absurd (true≢false (let g : true ≡ false = rw there at h in g))
    by false e = e

lesser_differs : (m n : ℕ) → nat_lt m n ≡ true → not (m == n) ≡ true
lesser_differs m n h = grind (arith, nat_tests)

greater_differs : (m n : ℕ) → nat_lt m n ≡ true → not (n == m) ≡ true
greater_differs m n h = grind (arith, nat_tests)

turned : (a : Bool) → a ≡ false → not a ≡ true
turned true h = sym h
turned false h = refl

turned_back : (a : Bool) → not a ≡ true → a ≡ false
turned_back true h = sym h
turned_back false h = refl

-- a binding differs from one with a greater number and another tag or another sequence
differs_from_newer : (b c : Binding) → nat_lt c.number b.number ≡ true → is_for b.tag b.sequence c ≡ false → differ c b ≡ true
differs_from_newer b c lt h =
    join (not (c.number == b.number)) (not (is_for c.tag c.sequence b)) (lesser_differs c.number b.number lt) (turned (is_for c.tag c.sequence b) (is_other b c h))

-- where one differs from others, a newer one of its tag and sequence does
in_its_place : (b c : Binding) (bs : List Binding) → is_for b.tag b.sequence c ≡ true → are_below b.number bs ≡ true → list_all (differ c) bs ≡ true → list_all (differ b) bs ≡ true
in_its_place b c [] e lt h = refl
in_its_place b c (d ∷ ds) e lt h =
    let below = both (nat_lt d.number b.number) (are_below b.number ds) lt in
    let apart = both (differ c d) (list_all (differ c) ds) h in
    let other = both (not (c.number == d.number)) (not (is_for c.tag c.sequence d)) apart.0 in
    let same = (is_for_so b.tag b.sequence c).0 e in
    let told : not (is_for b.tag b.sequence d) ≡ true = rw (← same.0, ← same.1) other.1 in
    join (differ b d) (list_all (differ b) ds) (join (not (b.number == d.number)) (not (is_for b.tag b.sequence d)) (greater_differs d.number b.number below.0) told)
    (in_its_place b c ds e below.1 apart.1)

all_placed : (test : Binding → Bool) (b : Binding) (bs : List Binding) → test b ≡ true → list_all test bs ≡ true → list_all test (placed b bs) ≡ true
all_placed test b [] k h = join (test b) true k refl
all_placed test b (c ∷ cs) k h = by (is_for b.tag b.sequence c) refl (both (test c) (list_all test cs) h) (all_placed test b cs k)
  where
    by : (t : Bool) → is_for b.tag b.sequence c ≡ t → (test c ≡ true) × (list_all test cs ≡ true) → (list_all test cs ≡ true → list_all test (placed b cs) ≡ true)
        → list_all test (placed b (c ∷ cs)) ≡ true
    by true e h rest = rw e (join (test b) (list_all test cs) k h.1)
    by false e h rest = rw e (join (test c) (list_all test (placed b cs)) h.0 (rest h.1))

differ_placed : (b : Binding) (bs : List Binding) → are_below b.number bs ≡ true → all_differ differ bs ≡ true → all_differ differ (placed b bs) ≡ true
differ_placed b [] lt h = refl
differ_placed b (c ∷ cs) lt h =
    by (is_for b.tag b.sequence c) refl (both (nat_lt c.number b.number) (are_below b.number cs) lt) (both (list_all (differ c) cs) (all_differ differ cs) h) (differ_placed b cs)
  where
    by : (t : Bool) → is_for b.tag b.sequence c ≡ t → (nat_lt c.number b.number ≡ true) × (are_below b.number cs ≡ true)
        → (list_all (differ c) cs ≡ true) × (all_differ differ cs ≡ true)
        → (are_below b.number cs ≡ true → all_differ differ cs ≡ true → all_differ differ (placed b cs) ≡ true) → all_differ differ (placed b (c ∷ cs)) ≡ true
    by true e lt h rest = rw e (join (list_all (differ b) cs) (all_differ differ cs) (in_its_place b c cs e lt.1 h.0) h.1)
    by false e lt h rest =
        rw e (join (list_all (differ c) (placed b cs)) (all_differ differ (placed b cs)) (all_placed (differ c) b cs (differs_from_newer b c lt.0 e) h.0) (rest lt.1 h.1))

one_more_below : (n : ℕ) (bs : List Binding) → are_below n bs ≡ true → are_below (n + 1) bs ≡ true
one_more_below n [] h = refl
one_more_below n (b ∷ bs) h =
    let below = both (nat_lt b.number n) (are_below n bs) h in
    let more : nat_lt b.number (n + 1) ≡ true = let lt = below.0 in grind (arith, nat_tests) in
    join (nat_lt b.number (n + 1)) (are_below (n + 1) bs) more (one_more_below n bs below.1)

next_below : (n : ℕ) → nat_lt n (n + 1) ≡ true
next_below n = grind (arith, nat_tests)

-- ---- what is done

-- one is set, with the next number
pub set_differ : (b : Binding) (bs : List Binding) → are_bindings b.number bs ≡ true → are_bindings (b.number + 1) (placed b bs) ≡ true
set_differ b bs h =
    let all = both (are_below b.number bs) (all_differ differ bs) h in
    join (are_below (b.number + 1) (placed b bs)) (all_differ differ (placed b bs))
    (all_placed (λ c. nat_lt c.number (b.number + 1)) b bs (next_below b.number) (one_more_below b.number bs all.0)) (differ_placed b bs all.0 all.1)

-- one is taken out
pub removed_differ : (next : ℕ) (bs : List Binding) (i : ℕ) → are_bindings next bs ≡ true → are_bindings next (remove bs i) ≡ true
removed_differ next bs i h =
    let all = both (are_below next bs) (all_differ differ bs) h in
    join (are_below next (remove bs i)) (all_differ differ (remove bs i)) (all_removed (λ b. nat_lt b.number next) bs i all.0) (differ_removed differ bs i all.1)

-- ---- which number is the greatest

-- those of other tags or sequences have lesser numbers than the next one
others_below : (next : ℕ) (tag : List ℕ) (s : List Pattern) (bs : List Binding) → are_below next bs ≡ true → others_are_below next tag s bs ≡ true
others_below next tag s [] h = refl
others_below next tag s (b ∷ bs) h =
    let below = both (nat_lt b.number next) (are_below next bs) h in
    join (is_for tag s b || nat_lt b.number next) (others_are_below next tag s bs) (either (is_for tag s b) (nat_lt b.number next) below.0) (others_below next tag s bs below.1)
  where
    either : (x y : Bool) → y ≡ true → (x || y) ≡ true
    either true y h = refl
    either false y h = h

-- one that is set has a greater number than the others
pub set_latest : (b : Binding) (bs : List Binding) → are_bindings b.number bs ≡ true → others_are_below b.number b.tag b.sequence (placed b bs) ≡ true
set_latest b bs h =
    let itself : is_for b.tag b.sequence b ≡ true = (is_for_so b.tag b.sequence b).1 (refl, refl) in
    let first : (is_for b.tag b.sequence b || nat_lt b.number b.number) ≡ true = rw itself refl in
    all_placed (λ c. is_for b.tag b.sequence c || nat_lt c.number b.number) b bs first
    (others_below b.number b.tag b.sequence bs (both (are_below b.number bs) (all_differ differ bs) h).0)

-- those that are left where one is taken out have lesser numbers than the next one
pub removed_below : (next : ℕ) (tag : List ℕ) (s : List Pattern) (bs : List Binding) (i : ℕ) → are_bindings next bs ≡ true → others_are_below next tag s (remove bs i) ≡ true
removed_below next tag s bs i h =
    others_below next tag s (remove bs i) (both (are_below next (remove bs i)) (all_differ differ (remove bs i)) (removed_differ next bs i h)).0

pub all_below : (next : ℕ) (tag : List ℕ) (s : List Pattern) (bs : List Binding) → are_bindings next bs ≡ true → others_are_below next tag s bs ≡ true
all_below next tag s bs h = others_below next tag s bs (both (are_below next bs) (all_differ differ bs) h).0

pub apart : (next : ℕ) (bs : List Binding) → are_bindings next bs ≡ true → all_differ differ bs ≡ true
apart next bs h = (both (are_below next bs) (all_differ differ bs) h).1
