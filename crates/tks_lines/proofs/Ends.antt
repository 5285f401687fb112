-- Ranges and flags say the same.
use Rattle.std.proofs.Common.{◌≡◌, ℕ, zero, suc, ◌+◌, ◌-◌, ◌<◌, ◌≤◌, Bool, true, false, List, [], ◌∷◌, ◌++◌, length, replicate, Option, Some, None, refl, sym, ap, ◌∙◌, subst, arith}
use Rattle.std.proofs.lemmas.Bool.Decides.{nat_tests}
use Rattle.std.proofs.lemmas.List.{length-append, length-replicate, append-nil}
use Rattle.tks_lines.specs.declared.range.Range.{Range}
use Rattle.tks_lines.specs.Ranges.{ranges_at, ranges_of, flags_at, flags_of, is_behind, AreRanges}

abbrev offs : ℕ → List Bool
offs n = replicate n false

abbrev ons : ℕ → List Bool
ons n = replicate n true

-- ---- ranges of flags of ranges

-- over flags that are off
skip_offs : (place n : ℕ) (on : List Bool) → ranges_at None place (offs n ++ on) ≡ ranges_at None (place + n) on
skip_offs place zero on = let same : place ≡ place + 0 = omega arith in ap (λ p. ranges_at None p on) same
skip_offs place (suc n) on = let same : (place + 1) + n ≡ place + suc n = omega arith in skip_offs (place + 1) n on ∙ ap (λ p. ranges_at None p on) same

-- over flags that are on, in a range
skip_ons : (first place n : ℕ) (on : List Bool) → ranges_at (Some first) place (ons n ++ on) ≡ ranges_at (Some first) (place + n) on
skip_ons first place zero on = let same : place ≡ place + 0 = omega arith in ap (λ p. ranges_at (Some first) p on) same
skip_ons first place (suc n) on = let same : (place + 1) + n ≡ place + suc n = omega arith in skip_ons first (place + 1) n on ∙ ap (λ p. ranges_at (Some first) p on) same

-- no flag is on
none_on : (place n : ℕ) → ranges_at None place (offs n) ≡ []
none_on place zero = refl
none_on place (suc n) = none_on (place + 1) n

-- a range that has begun ends where a flag is off, or where there are no more
ended : (first place n : ℕ) (on : List Bool) → ranges_at (Some first) place (offs (suc n) ++ on) ≡ record { first = first; last = place } ∷ ranges_at None place (offs (suc n) ++ on)
ended first place n on = refl

ended_last : (first place n : ℕ) → ranges_at (Some first) place (offs n) ≡ record { first = first; last = place } ∷ ranges_at None place (offs n)
ended_last first place zero = refl
ended_last first place (suc n) = refl

-- so many, where there are some
as_suc : (n : ℕ) → 0 < n → suc (n - 1) ≡ n
as_suc n h = omega arith

-- behind a range that ended at its last place, one that has begun there ends
ends_there : (first len : ℕ) (r : Range) (ranges : List Range) → AreRanges len (Some r) ranges
    → ranges_at (Some first) r.last (flags_at r.last len ranges) ≡ record { first = first; last = r.last } ∷ ranges_at None r.last (flags_at r.last len ranges)
ends_there first len r [] h = ended_last first r.last (len - r.last)
ends_there first len r (q ∷ ranges) h =
    let gap : r.last < q.first = grind (arith, nat_tests) in
    let some : 0 < q.first - r.last = omega arith in
    subst (λ n. ranges_at (Some first) r.last (offs n ++ (ons (q.last - q.first) ++ flags_at q.last len ranges)) ≡ record { first = first; last = r.last } ∷ ranges_at None r.last (offs n ++ (ons (q.last - q.first) ++ flags_at q.last len ranges)))
    (as_suc (q.first - r.last) some)
    (ended first r.last (q.first - r.last - 1) (ons (q.last - q.first) ++ flags_at q.last len ranges))

-- a range begins where a flag is on
begins : (place n : ℕ) (on : List Bool) → ranges_at None place (ons (suc n) ++ on) ≡ ranges_at (Some place) (place + suc n) on
begins place n on = let same : (place + 1) + n ≡ place + suc n = omega arith in skip_ons place (place + 1) n on ∙ ap (λ p. ranges_at (Some place) p on) same

-- the place from which on ranges may begin
abbrev from : Option Range → ℕ
from None = 0
from (Some r) = r.last

begins_from : (len : ℕ) (before : Option Range) (r : Range) → is_behind before r.first ≡ true → from before ≤ r.first
begins_from len None r h = omega arith
begins_from len (Some b) r h = grind (arith, nat_tests)

again : (len : ℕ) (before : Option Range) (ranges : List Range) → AreRanges len before ranges → ranges_at None (from before) (flags_at (from before) len ranges) ≡ ranges
again len before [] h = none_on (from before) (len - from before)
again len before (r ∷ ranges) h =
    let low = begins_from len before r h.0 in
    let some : 0 < r.last - r.first = omega (arith, h.1) in
    let there : from before + (r.first - from before) ≡ r.first = omega (arith, low) in
    let behind : r.first + suc (r.last - r.first - 1) ≡ r.last = omega (arith, h.1) in
    let rest = flags_at r.last len ranges in
    skip_offs (from before) (r.first - from before) (ons (r.last - r.first) ++ rest)
    ∙ ap (λ p. ranges_at None p (ons (r.last - r.first) ++ rest)) there
    ∙ ap (λ n. ranges_at None r.first (ons n ++ rest)) (sym (as_suc (r.last - r.first) some))
    ∙ begins r.first (r.last - r.first - 1) rest
    ∙ ap (λ p. ranges_at (Some r.first) p rest) behind
    ∙ ends_there r.first len r ranges h.3
    ∙ ap (λ rs. r ∷ rs) (again len (Some r) ranges h.3)

pub ranges_again : (len : ℕ) (ranges : List Range) → AreRanges len None ranges → ranges_of (flags_of len ranges) ≡ ranges
ranges_again len ranges h = again len None ranges h

-- ---- flags of ranges of flags

one_off : (n : ℕ) (on : List Bool) → offs n ++ false ∷ on ≡ offs (n + 1) ++ on
one_off zero on = refl
one_off (suc n) on = let next : suc (n + 1) ≡ suc n + 1 = omega arith in ap (λ xs. false ∷ xs) (one_off n on) ∙ ap (λ k. offs k ++ on) next

one_on : (n : ℕ) (on : List Bool) → ons n ++ true ∷ on ≡ ons (n + 1) ++ on
one_on zero on = refl
one_on (suc n) on = let next : suc (n + 1) ≡ suc n + 1 = omega arith in ap (λ xs. true ∷ xs) (one_on n on) ∙ ap (λ k. ons k ++ on) next

there : (len : ℕ) (place : ℕ) (m : ℕ) → place + suc m ≡ len → (place + 1) + m ≡ len
there len place m e = omega (arith, e)

-- the flags of ranges of flags, outside a range and in one that began before
again_flags : (len : ℕ) (on : List Bool) → ((low place : ℕ) → low ≤ place → place + length on ≡ len → flags_at low len (ranges_at None place on) ≡ offs (place - low) ++ on)
    × ((low first place : ℕ) → first < place → place + length on ≡ len → flags_at low len (ranges_at (Some first) place on) ≡ offs (first - low) ++ (ons (place - first) ++ on))
again_flags len [] = (
  λ low place h e. let same : len - low ≡ place - low = omega (arith, e) in ap offs same ∙ sym (append-nil (offs (place - low))),
  λ low first place h e. let same : len - place ≡ 0 = omega (arith, e) in ap (λ n. offs (first - low) ++ (ons (place - first) ++ offs n)) same,
)
again_flags len (true ∷ on) =
    let rest = again_flags len on in (
      λ low place h e. let one : place + 1 - place ≡ 1 = omega arith in rest.1 low place (place + 1) (omega arith) (there len place (length on) e) ∙ ap (λ n. offs (place - low) ++ (ons n ++ on)) one,
      λ low first place h e. let one : place + 1 - first ≡ (place - first) + 1 = omega (arith, h) in
          rest.1 low first (place + 1) (omega (arith, h)) (there len place (length on) e) ∙ ap (λ n. offs (first - low) ++ (ons n ++ on)) one ∙ ap (λ xs. offs (first - low) ++ xs) (sym (one_on (place - first) on)),
    )
again_flags len (false ∷ on) =
    let rest = again_flags len on in (
      λ low place h e. let one : place + 1 - low ≡ (place - low) + 1 = omega (arith, h) in
          rest.0 low (place + 1) (omega (arith, h)) (there len place (length on) e) ∙ ap (λ n. offs n ++ on) one ∙ sym (one_off (place - low) on),
      λ low first place h e. let one : place + 1 - place ≡ 1 = omega arith in
          ap (λ xs. offs (first - low) ++ (ons (place - first) ++ xs)) (rest.0 place (place + 1) (omega arith) (there len place (length on) e) ∙ ap (λ n. offs n ++ on) one),
    )

pub flags_again : (on : List Bool) → flags_of (length on) (ranges_of on) ≡ on
flags_again on = (again_flags (length on) on).0 0 0 (omega arith) (omega arith)

-- ---- the ranges of flags are ranges

-- where the next range may begin
abbrev lowest : Option Range → ℕ
lowest None = 0
lowest (Some r) = r.last + 1

behind : (before : Option Range) (first : ℕ) → lowest before ≤ first → is_behind before first ≡ true
behind None first h = refl
behind (Some r) first h = grind (arith, nat_tests)

are_lawful : (len : ℕ) (on : List Bool) → ((before : Option Range) (place : ℕ) → lowest before ≤ place → place + length on ≡ len → AreRanges len before (ranges_at None place on))
    × ((before : Option Range) (first place : ℕ) → lowest before ≤ first → first < place → place + length on ≡ len → AreRanges len before (ranges_at (Some first) place on))
are_lawful len [] = (λ before place h e. tt, λ before first place h k e. (behind before first h, k, omega (arith, e), tt))
are_lawful len (true ∷ on) =
    let rest = are_lawful len on in (
      λ before place h e. rest.1 before place (place + 1) h (omega arith) (there len place (length on) e),
      λ before first place h k e. rest.1 before first (place + 1) h (omega (arith, k)) (there len place (length on) e),
    )
are_lawful len (false ∷ on) =
    let rest = are_lawful len on in (
      λ before place h e. rest.0 before (place + 1) (omega (arith, h)) (there len place (length on) e),
      λ before first place h k e. (behind before first h, k, omega (arith, e), rest.0 (Some (record { first = first; last = place })) (place + 1) (omega arith) (there len place (length on) e)),
    )

pub ranges_lawful : (on : List Bool) → AreRanges (length on) None (ranges_of on)
ranges_lawful on = (are_lawful (length on) on).0 None 0 (omega arith) (omega arith)

-- ---- from a place on

-- ranges that rise from a place on
abbrev pub From : ℕ → ℕ → List Range → Type 0
From place len [] = place ≤ len
From place len (r ∷ ranges) = (place ≤ r.first) × (r.first ≤ r.last) × (r.last ≤ len) × From r.last len ranges

from_last : (len : ℕ) (before : Option Range) (ranges : List Range) → from before ≤ len → AreRanges len before ranges → From (from before) len ranges
from_last len before [] e h = e
from_last len before (r ∷ ranges) e h = (begins_from len before r h.0, omega (arith, h.1), h.2, from_last len (Some r) ranges h.2 h.3)

pub from_first : (len : ℕ) (ranges : List Range) → AreRanges len None ranges → From 0 len ranges
from_first len ranges h = from_last len None ranges (omega arith) h

long : (place len : ℕ) (ranges : List Range) → From place len ranges → place + length (flags_at place len ranges) ≡ len
long place len [] h = let l = length-replicate (len - place) false in omega (arith, l, h)
long place len (r ∷ ranges) h =
    let rest = long r.last len ranges h.3 in
    let l = length-append (offs (r.first - place)) (ons (r.last - r.first) ++ flags_at r.last len ranges) in
    let m = length-append (ons (r.last - r.first)) (flags_at r.last len ranges) in
    let k = length-replicate (r.first - place) false in
    let n = length-replicate (r.last - r.first) true in
    omega (arith, rest, l, m, k, n, h.0, h.1)

pub flags_long : (len : ℕ) (ranges : List Range) → AreRanges len None ranges → length (flags_of len ranges) ≡ len
flags_long len ranges h = let l = long 0 len ranges (from_first len ranges h) in omega (arith, l)

-- no flags so far
pub none_so_far : (items : List Bool) (len : ℕ) (ranges : List Range) → items ≡ [] → AreRanges len None ranges
    → (items ++ flags_at (length items) len ranges ≡ flags_of len ranges) × From (length items) len ranges
none_so_far items len ranges e h = subst (λ xs. (xs ++ flags_at (length xs) len ranges ≡ flags_of len ranges) × From (length xs) len ranges) (sym e) (refl, from_first len ranges h)
