-- The share is the most that fits.
use Rattle.std.proofs.Common.{◌≡◌, ◌↔◌, inl, inr, ℕ, zero, suc, ◌+◌, ◌-◌, ◌*◌, ◌/◌, ◌<◌, ◌≤◌, min, max, Bool, true, false, if◌then◌else◌, List, [], ◌∷◌, refl, arith}
use Rattle.std.proofs.lemmas.Bool.{cases_lt}
use Rattle.std.proofs.lemmas.Nat.{mul-le}
use native.Mathlib.Nat.{le-div_iff_mul-le, mul-add}
use Rattle.tks_pack.specs.declared.stretch.Stretch.{Stretch}
use Rattle.tks_pack.specs.Stretch.{lies_along, takes_share, outer}
use Rattle.tks_pack.specs.Packer.{more, least, share}
use Rattle.tks_pack.specs.Requests.{request_with}

product : (x n : ℕ) → 1 ≤ x → 1 ≤ n → 1 ≤ x * n
product x n h k = mul-le 1 1 x n h k

multiplied : (x r n : ℕ) → 1 ≤ n → x ≤ r / n → x * n ≤ r
multiplied x r n h k = (le-div_iff_mul-le {k = n} {x = x} {y = r} h).0 k

divided : (x r n : ℕ) → 1 ≤ n → x * n ≤ r → x ≤ r / n
divided x r n h k = (le-div_iff_mul-le {k = n} {x = x} {y = r} h).1 k

-- a content more, where b says whether it lies along the axis, o is what it asks for, m the one that it counts
-- for, f what is noted over the rest, and q what the rest asks for
fits_at : (b : Bool) (x r n o m q : ℕ) (f : ℕ → ℕ → ℕ) → 1 ≤ x → 1 ≤ n
    → ((r n : ℕ) → 1 ≤ n → x ≤ f r n → x * n + q ≤ r)
    → x ≤ (if b then f (r - o) (n + m) else min ((r - o) / n) (f r n))
    → x * n + (if b then o + x * m + q else max o q) ≤ r
fits_at true x r n o m q f hx hn ih h =
    let e : x * (n + m) ≡ x * n + x * m = mul-add x n m in
    let p : 1 ≤ x * n = product x n hx hn in
    let k : x * (n + m) + q ≤ r - o = ih (r - o) (n + m) (omega arith) h in
    omega arith
fits_at false x r n o m q f hx hn ih h =
    let p : 1 ≤ x * n = product x n hx hn in
    let k : x * n + q ≤ r = ih r n hn (omega arith) in
    let j : x * n ≤ r - o = multiplied x (r - o) n hn (omega arith) in
    omega arith

pub fits : (x : ℕ) (rest : List Stretch) → 1 ≤ x → (r n : ℕ) → 1 ≤ n → x ≤ least r n rest → x * n + request_with x rest ≤ r
fits x [] hx r n hn h = let k : x * n ≤ r = multiplied x r n hn h in omega arith
fits x (s ∷ rest) hx r n hn h = fits_at (lies_along s.edge) x r n (outer s) (more s) (request_with x rest) (λ r n. least r n rest) hx hn (fits x rest hx) h

fitting_at : (b : Bool) (x r n o m q : ℕ) (f : ℕ → ℕ → ℕ) → 1 ≤ x → 1 ≤ n
    → ((r n : ℕ) → 1 ≤ n → x * n + q ≤ r → x ≤ f r n)
    → x * n + (if b then o + x * m + q else max o q) ≤ r
    → x ≤ (if b then f (r - o) (n + m) else min ((r - o) / n) (f r n))
fitting_at true x r n o m q f hx hn ih h =
    let e : x * (n + m) ≡ x * n + x * m = mul-add x n m in
    ih (r - o) (n + m) (omega arith) (omega arith)
fitting_at false x r n o m q f hx hn ih h =
    let k : x ≤ f r n = ih r n hn (omega arith) in
    let j : x ≤ (r - o) / n = divided x (r - o) n hn (omega arith) in
    omega arith

pub fitting : (x : ℕ) (rest : List Stretch) → 1 ≤ x → (r n : ℕ) → 1 ≤ n → x * n + request_with x rest ≤ r → x ≤ least r n rest
fitting x [] hx r n hn h = divided x r n hn (omega arith)
fitting x (s ∷ rest) hx r n hn h = fitting_at (lies_along s.edge) x r n (outer s) (more s) (request_with x rest) (λ r n. least r n rest) hx hn (fitting x rest hx) h

-- ---- at a content that takes a share

taken : (b e : Bool) → (if b then e else false) ≡ true → (b ≡ true) × (e ≡ true)
taken true e h = (refl, h)
taken false e h = absurd (cc)

-- what it and the rest ask for
asked : (x : ℕ) (s : Stretch) (rest : List Stretch) → takes_share s ≡ true → request_with x (s ∷ rest) ≡ outer s + x + request_with x rest
asked x s rest e =
    let t : (lies_along s.edge ≡ true) × (s.expands ≡ true) = taken (lies_along s.edge) s.expands e in
    let one : x * 1 ≡ x = omega arith in
    rw (t.0, t.1, one) refl

share_fits : (x r : ℕ) (s : Stretch) (rest : List Stretch) → takes_share s ≡ true → 1 ≤ x → x ≤ share r s rest → request_with x (s ∷ rest) ≤ r
share_fits x r s rest e hx h =
    let k : x ≤ least (r - outer s) 1 rest = rw e at h in
    let j : x * 1 + request_with x rest ≤ r - outer s = fits x rest hx (r - outer s) 1 (omega arith) k in
    rw (asked x s rest e) (omega arith)

fitting_share : (x r : ℕ) (s : Stretch) (rest : List Stretch) → takes_share s ≡ true → 1 ≤ x → request_with x (s ∷ rest) ≤ r → x ≤ share r s rest
fitting_share x r s rest e hx h =
    let k : outer s + x + request_with x rest ≤ r = rw (asked x s rest e) at h in
    rw e (fitting x rest hx (r - outer s) 1 (omega arith) (omega arith))

pub most_that_fits : (r x : ℕ) (s : Stretch) (rest : List Stretch) → takes_share s ≡ true → 1 ≤ x → (x ≤ share r s rest) ↔ (request_with x (s ∷ rest) ≤ r)
most_that_fits r x s rest e hx = (share_fits x r s rest e hx, fitting_share x r s rest e hx)

below : {q r : ℕ} → q ≤ r → r < q → ⊥
below h k = omega arith

between : (x y q r : ℕ) → (x + 1 ≤ y → q ≤ r) → (0 < x → x ≤ y) → r < q → x ≡ y
between zero y q r h k l = elim (cases_lt zero y) as (λ _. zero ≡ y) [ inl p ↦ absurd (below (h p) l) | inr p ↦ omega arith ]
between (suc x) y q r h k l = elim (cases_lt (suc x) y) as (λ _. suc x ≡ y) [ inl p ↦ absurd (below (h (omega arith)) l) | inr p ↦ let j : suc x ≤ y = k (omega arith) in omega arith ]

-- a share with which all fits, and with a cell more nothing does
pub kept : (x r : ℕ) (s : Stretch) (rest : List Stretch) → takes_share s ≡ true → (0 < x → request_with x (s ∷ rest) ≤ r) → r < request_with (x + 1) (s ∷ rest) → x ≡ share r s rest
kept x r s rest e fits_now over =
    let more_fits : x + 1 ≤ share r s rest → request_with (x + 1) (s ∷ rest) ≤ r = share_fits (x + 1) r s rest e (omega arith) in
    let low : 0 < x → x ≤ share r s rest = λ p. fitting_share x r s rest e (omega arith) (fits_now p) in
    between x (share r s rest) (request_with (x + 1) (s ∷ rest)) r more_fits low over
