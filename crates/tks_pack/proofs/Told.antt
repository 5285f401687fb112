-- Requests of more than 2^32 - 1 cells: that they are told as so many shows nowhere.
use Rattle.std.proofs.Common.{◌≡◌, ℕ, ◌+◌, ◌-◌, ◌*◌, ◌/◌, ◌<◌, ◌≤◌, ◌^◌, min, max, Bool, true, false, if◌then◌else◌, List, [], ◌∷◌, map, Option, Some, IfSome, refl, ap, ◌∙◌, arith}
use Rattle.tks_pack.specs.declared.area.Extent.{Extent}
use Rattle.tks_pack.specs.declared.line.Span.{Span}
use Rattle.tks_pack.specs.declared.packing.Content.{Content}
use Rattle.tks_pack.specs.declared.stretch.Stretch.{Stretch}
use Rattle.tks_pack.specs.Laws.{IsToldAs, told_size}
use Rattle.tks_pack.specs.Packer.{more, least, share, parcel_length, parcel_at, behind, in_room, within, spans, request}
use Rattle.tks_pack.specs.Packing.{areas, capped, horizontals, verticals, places, requested, request_of}
use Rattle.tks_pack.specs.Stretch.{horizontal, vertical, lies_along, takes_share, inner, outer}
use Rattle.tks_pack.proofs.Inside.{Part, parcel_part, behind_part}

-- ---- what a container tells

told_as : (n : ℕ) → IsToldAs n (capped n)
told_as n = (omega arith, λ h. omega arith, λ h. omega arith)

pub contents_told : (size : ℕ → Extent) (propagates : Bool) (contents : List Content) → IfSome (requested size propagates contents) (λ asked. IsToldAs (request (horizontals size contents)) asked.width × IsToldAs (request (verticals size contents)) asked.height)
contents_told size propagates [] = tt
contents_told size true (c ∷ rest) = (told_as (request (horizontals size (c ∷ rest))), told_as (request (verticals size (c ∷ rest))))
contents_told size false (c ∷ rest) = tt

-- ---- windows along an axis, each as it tells of itself

abbrev told : Stretch → Stretch
told s = record s { requested = capped s.requested }

horizontals_told : (size : ℕ → Extent) (contents : List Content) → horizontals (λ window. told_size (size window)) contents ≡ map told (horizontals size contents)
horizontals_told size [] = refl
horizontals_told size (c ∷ rest) = ap (λ ss. told (horizontal c.settings (size c.window)) ∷ ss) (horizontals_told size rest)

verticals_told : (size : ℕ → Extent) (contents : List Content) → verticals (λ window. told_size (size window)) contents ≡ map told (verticals size contents)
verticals_told size [] = refl
verticals_told size (c ∷ rest) = ap (λ ss. told (vertical c.settings (size c.window)) ∷ ss) (verticals_told size rest)

-- ---- requests

outer_told : (s : Stretch) → capped (outer (told s)) ≡ capped (outer s)
outer_told s = omega arith

before_at : (b : Bool) (p o q n : ℕ) → capped p ≡ capped o → capped q ≡ capped n → capped (if b then p + q else max p q) ≡ capped (if b then o + n else max o n)
before_at true p o q n a c = omega arith
before_at false p o q n a c = omega arith

request_told : (stretches : List Stretch) → capped (request (map told stretches)) ≡ capped (request stretches)
request_told [] = refl
request_told (s ∷ rest) = before_at (lies_along s.edge) (outer (told s)) (outer s) (request (map told rest)) (request rest) (outer_told s) (request_told rest)

abbrev extent : ℕ → ℕ → Extent
extent width height = record { width = width; height = height }

request_of_told : (size : ℕ → Extent) (contents : List Content) → request_of (λ window. told_size (size window)) contents ≡ request_of size contents
request_of_told size contents =
    let wide = ap (λ ss. capped (request ss)) (horizontals_told size contents) ∙ request_told (horizontals size contents) in
    let high = ap (λ ss. capped (request ss)) (verticals_told size contents) ∙ request_told (verticals size contents) in
    ap (λ w. extent w (capped (request (verticals (λ window. told_size (size window)) contents)))) wide
    ∙ ap (λ h. extent (capped (request (horizontals size contents))) h) high

pub requests_told : (size : ℕ → Extent) (propagates : Bool) (contents : List Content) → requested (λ window. told_size (size window)) propagates contents ≡ requested size propagates contents
requests_told size propagates [] = refl
requests_told size true (c ∷ rest) = ap Some (request_of_told size (c ∷ rest))
requests_told size false (c ∷ rest) = refl

-- ---- shares, in a cavity of fewer than 2^32 cells

left_told : (r : ℕ) (s : Stretch) → r < 2 ^ 32 → r - outer (told s) ≡ r - outer s
left_told r s h = omega arith

least_at : (b : Bool) (r n m p o : ℕ) (f g : ℕ → ℕ → ℕ) → r - p ≡ r - o → r < 2 ^ 32 → ((r n : ℕ) → r < 2 ^ 32 → f r n ≡ g r n)
    → (if b then f (r - p) (n + m) else min ((r - p) / n) (f r n)) ≡ (if b then g (r - o) (n + m) else min ((r - o) / n) (g r n))
least_at true r n m p o f g d h ih = ap (λ x. f x (n + m)) d ∙ ih (r - o) (n + m) (omega arith)
least_at false r n m p o f g d h ih = ap (λ x. min (x / n) (f r n)) d ∙ ap (λ y. min ((r - o) / n) y) (ih r n h)

least_told : (rest : List Stretch) (r n : ℕ) → r < 2 ^ 32 → least r n (map told rest) ≡ least r n rest
least_told [] r n h = refl
least_told (s ∷ rest) r n h =
    least_at (lies_along s.edge) r n (more s) (outer (told s)) (outer s) (λ r n. least r n (map told rest)) (λ r n. least r n rest) (left_told r s h) h (least_told rest)

share_told : (r : ℕ) (s : Stretch) (rest : List Stretch) → r < 2 ^ 32 → share r (told s) (map told rest) ≡ share r s rest
share_told r s rest h =
    let same = ap (λ x. least x 1 (map told rest)) (left_told r s h) ∙ least_told rest (r - outer s) 1 (omega arith) in
    ap (λ (x : ℕ). if takes_share s then x else 0) same

parcel_told : (r : ℕ) (s : Stretch) (rest : List Stretch) → r < 2 ^ 32 → parcel_length r (told s) (map told rest) ≡ parcel_length r s rest
parcel_told r s rest h = ap (λ x. min r (outer (told s) + x)) (share_told r s rest h) ∙ cut (share r s rest)
  where
    cut : (x : ℕ) → min r (outer (told s) + x) ≡ min r (outer s + x)
    cut x = omega arith

-- ---- places

shown_at : (fills : Bool) (s : Stretch) (room : ℕ) → room < 2 ^ 32 → (if fills then room else min (inner (told s)) room) ≡ (if fills then room else min (inner s) room)
shown_at true s room h = refl
shown_at false s room h = omega arith

within_told : (s : Stretch) (parcel : Span) → parcel.length < 2 ^ 32 → within (told s) parcel ≡ within s parcel
within_told s parcel h =
    let room = parcel.length - 2 * s.padding in
    ap (in_room s parcel.start room) (shown_at s.fills s room (omega arith))

spans_told : (stretches : List Stretch) (cavity : Span) → cavity.length < 2 ^ 32 → spans cavity (map told stretches) ≡ spans cavity stretches
spans_told [] cavity h = refl
spans_told (s ∷ rest) cavity h =
    let l = parcel_length cavity.length s rest in
    let short : l ≤ cavity.length = omega arith in
    let parcel : Part cavity (parcel_at s.edge l cavity) = parcel_part s.edge l cavity short in
    let left : Part cavity (behind s.edge l cavity) = behind_part s.edge l cavity short in
    ap (λ k. within (told s) (parcel_at s.edge k cavity) ∷ spans (behind s.edge k cavity) (map told rest)) (parcel_told cavity.length s rest h)
    ∙ ap (λ x. x ∷ spans (behind s.edge l cavity) (map told rest)) (within_told s (parcel_at s.edge l cavity) (omega (arith, parcel.0, parcel.1)))
    ∙ ap (λ xs. within s (parcel_at s.edge l cavity) ∷ xs) (spans_told rest (behind s.edge l cavity) (omega (arith, left.0, left.1)))

pub places_told : (size : ℕ → Extent) (container : Extent) (contents : List Content) → container.width < 2 ^ 32 → container.height < 2 ^ 32 → places (λ window. told_size (size window)) container contents ≡ places size container contents
places_told size container contents wide high =
    let across : Span = record { start = 0; length = container.width } in
    let down : Span = record { start = 0; length = container.height } in
    let hs = ap (spans across) (horizontals_told size contents) ∙ spans_told (horizontals size contents) across wide in
    let vs = ap (spans down) (verticals_told size contents) ∙ spans_told (verticals size contents) down high in
    ap (λ (x : List (Option Span)). areas x (spans down (verticals (λ window. told_size (size window)) contents))) hs
    ∙ ap (λ (y : List (Option Span)). areas (spans across (horizontals size contents)) y) vs
