-- How names stand to each other, by the numbers that their first bytes spell.
use Rattle.std.proofs.Common.{◌≡◌, ℕ, zero, suc, ◌+◌, ◌*◌, ◌<◌, ◌≤◌, List, [], ◌∷◌, length, Ordering, Less, Equal, Greater, nat_cmp, refl, sym, subst, ap, ◌∙◌, arith}
use Rattle.std.specs.Cmp.{ranks, nat_cmp_is, nat_cmp_total}
use Rattle.std.specs.Cmp.Lexicographic.{nat_list_cmp_total}
use Rattle.std.specs.Ordering.{ordering_then, ordering_reverse, MatchOrdering}
use Rattle.tks_share.specs.Names.{order, IsBytes, spelt, head_of}

-- no bytes spell least
least : (n a b : ℕ) (vs : List ℕ) → a ≤ b → spelt n a [] ≤ spelt n b vs
least zero a b vs l = l
least (suc n) a b [] l = least n (a * 256) (b * 256) [] (omega arith)
least (suc n) a b (v ∷ vs) l = least n (a * 256) (b * 256 + v) vs (omega arith)

-- of two numbers the less stays so, whatever bytes come behind
rises : (n a b : ℕ) (us vs : List ℕ) → IsBytes us → a < b → spelt n a us < spelt n b vs
rises zero a b us vs small l = l
rises (suc n) a b [] [] small l = rises n (a * 256) (b * 256) [] [] small (omega arith)
rises (suc n) a b [] (v ∷ vs) small l = rises n (a * 256) (b * 256 + v) [] vs small (omega arith)
rises (suc n) a b (u ∷ us) [] small l =
    let byte : u < 256 = small 0 in
    rises n (a * 256 + u) (b * 256) us [] (λ k. small (suc k)) (omega arith)
rises (suc n) a b (u ∷ us) (v ∷ vs) small l =
    let byte : u < 256 = small 0 in
    rises n (a * 256 + u) (b * 256 + v) us vs (λ k. small (suc k)) (omega arith)

-- behind a byte that is alike the rest decides
alike_first : (u v : ℕ) (us vs : List ℕ) → u ≡ v → order us vs ≡ order (u ∷ us) (v ∷ vs)
alike_first u v us vs same = ap (λ r. ordering_then r (order us vs)) (nat_cmp_is u v Equal same)

-- names whose bytes spell less come first
before : (n a : ℕ) (us vs : List ℕ) → IsBytes us → IsBytes vs → spelt n a us < spelt n a vs → order us vs ≡ Less
before zero a us vs g h l = absurd (omega arith)
before (suc n) a [] [] g h l = absurd (omega arith)
before (suc n) a [] (v ∷ vs) g h l = refl
before (suc n) a (u ∷ us) [] g h l =
    let no_less : spelt n (a * 256) [] ≤ spelt n (a * 256 + u) us = least n (a * 256) (a * 256 + u) us (omega arith) in
    absurd (omega arith)
before (suc n) a (u ∷ us) (v ∷ vs) g h l = by (before n (a * 256 + u) us vs (λ k. g (suc k)) (λ k. h (suc k))) (nat_cmp u v) refl (ranks u v)
  where
    by : (spelt n (a * 256 + u) us < spelt n (a * 256 + u) vs → order us vs ≡ Less)
        → (r : Ordering) → nat_cmp u v ≡ r → MatchOrdering r (u < v) (u ≡ v) (v < u) → order (u ∷ us) (v ∷ vs) ≡ Less
    by rest Less e m = ap (λ r. ordering_then r (order us vs)) e
    by rest Equal e m =
        let same : u ≡ v = m in
        sym (alike_first u v us vs same) ∙ rest (subst (λ w. spelt n (a * 256 + u) us < spelt n (a * 256 + w) vs) (sym same) l)
    by rest Greater e m =
        let over : v < u = m in
        let more : spelt n (a * 256 + v) vs < spelt n (a * 256 + u) us = rises n (a * 256 + v) (a * 256 + u) vs us (λ k. h (suc k)) (omega arith) in
        absurd (omega arith)

-- of two names the one whose head is less comes first
pub comes_before : (xs ys : List ℕ) → IsBytes xs → IsBytes ys → head_of xs < head_of ys → Less ≡ order xs ys
comes_before xs ys g h l = sym (before 8 0 xs ys g h l)

pub comes_behind : (xs ys : List ℕ) → IsBytes xs → IsBytes ys → head_of ys < head_of xs → Greater ≡ order xs ys
comes_behind xs ys g h l = sym (nat_list_cmp_total.antisymm xs ys ∙ ap ordering_reverse (before 8 0 ys xs h g l))

-- names that spell the same have the same first byte
same_first : (n a u v : ℕ) (us vs : List ℕ) → IsBytes us → IsBytes vs → spelt n (a * 256 + u) us ≡ spelt n (a * 256 + v) vs → u ≡ v
same_first n a u v us vs g h e = by (nat_cmp u v) (ranks u v)
  where
    by : (r : Ordering) → MatchOrdering r (u < v) (u ≡ v) (v < u) → u ≡ v
    by Less m =
        let under : u < v = m in
        let more : spelt n (a * 256 + u) us < spelt n (a * 256 + v) vs = rises n (a * 256 + u) (a * 256 + v) us vs g (omega arith) in
        absurd (omega arith)
    by Equal m = m
    by Greater m =
        let over : v < u = m in
        let more : spelt n (a * 256 + v) vs < spelt n (a * 256 + u) us = rises n (a * 256 + v) (a * 256 + u) vs us h (omega arith) in
        absurd (omega arith)

-- one more on both sides changes nothing
both_longer : (x y : ℕ) → nat_cmp (suc x) (suc y) ≡ nat_cmp x y
both_longer x y = by (nat_cmp x y) (ranks x y)
  where
    by : (r : Ordering) → MatchOrdering r (x < y) (x ≡ y) (y < x) → nat_cmp (suc x) (suc y) ≡ r
    by Less m = sym (nat_cmp_is (suc x) (suc y) Less (omega arith))
    by Equal m = let same : x ≡ y = m in sym (nat_cmp_is (suc x) (suc y) Equal (omega arith))
    by Greater m = sym (nat_cmp_is (suc x) (suc y) Greater (omega arith))

-- names that spell the same, of which one has no more bytes than there are places, stand to each other as their lengths
by_length : (n a : ℕ) (us vs : List ℕ) → IsBytes us → IsBytes vs → spelt n a us ≡ spelt n a vs → length us ≤ n → nat_cmp (length us) (length vs) ≡ order us vs
by_length n a [] [] g h e l = refl
by_length n a [] (v ∷ vs) g h e l = sym (nat_cmp_is 0 (length (v ∷ vs)) Less (omega arith))
by_length zero a (u ∷ us) vs g h e l = absurd (omega arith)
by_length (suc n) a (u ∷ us) [] g h e l = sym (nat_cmp_is (length (u ∷ us)) 0 Greater (omega arith))
by_length (suc n) a (u ∷ us) (v ∷ vs) g h e l =
    let same = same_first n a u v us vs (λ k. g (suc k)) (λ k. h (suc k)) e in
    let rest = e ∙ ap (λ w. spelt n (a * 256 + w) vs) (sym same) in
    both_longer (length us) (length vs) ∙ by_length n (a * 256 + u) us vs (λ k. g (suc k)) (λ k. h (suc k)) rest (omega arith) ∙ alike_first u v us vs same

-- of names with the same head, of which one ends within it, the shorter comes first
pub ends_first : (xs ys : List ℕ) → IsBytes xs → IsBytes ys → head_of xs ≡ head_of ys → length xs ≤ 8 → nat_cmp (length xs) (length ys) ≡ order xs ys
ends_first xs ys g h e l = by_length 8 0 xs ys g h e l

pub ends_last : (xs ys : List ℕ) → IsBytes xs → IsBytes ys → head_of xs ≡ head_of ys → length ys ≤ 8 → nat_cmp (length xs) (length ys) ≡ order xs ys
ends_last xs ys g h e l =
    nat_cmp_total.antisymm (length xs) (length ys) ∙ ap ordering_reverse (by_length 8 0 ys xs h g (sym e) l) ∙ sym (nat_list_cmp_total.antisymm xs ys)
