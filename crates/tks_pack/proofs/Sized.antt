-- In a container as large as its contents ask for, each window has its size; in less, one doesn't.
use Rattle.std.proofs.Common.{◌≡◌, ◌↔◌, ℕ, zero, suc, ◌+◌, ◌-◌, ◌*◌, ◌≤◌, ◌==◌, min, max, Bool, true, false, if◌then◌else◌, List, [], ◌∷◌, Option, Some, None, refl, subst, arith, rules}
use Rattle.tks_pack.specs.declared.area.Extent.{Extent}
use Rattle.tks_pack.specs.declared.line.Span.{Span}
use Rattle.tks_pack.specs.declared.packing.Content.{Content}
use Rattle.tks_pack.specs.declared.stretch.Edge.{Edge}
use Rattle.tks_pack.specs.declared.stretch.Edge.TheVariants as edge
use Rattle.tks_pack.specs.declared.stretch.Stretch.{Stretch}
use Rattle.tks_pack.specs.Laws.{length_of, AllGet, AllAsk, HasSize, AllHaveSizes, AllHaveCells}
use Rattle.tks_pack.specs.Packer.{more, share, parcel_length, parcel_at, behind, shown_length, in_room, within, spans, request}
use Rattle.tks_pack.specs.Packing.{area, areas, horizontals, verticals, places}
use Rattle.tks_pack.specs.Requests.{request_with}
use Rattle.tks_pack.specs.Stretch.{lies_along, takes_share, inner, outer}
use Rattle.tks_pack.proofs.Fitting.{most_that_fits}

-- ---- shares leave what the rest asks for

more_asks_at : (b : Bool) (o m q q' : ℕ) → q ≤ q' → (if b then o + q else max o q) ≤ (if b then o + m + q' else max o q')
more_asks_at true o m q q' h = omega arith
more_asks_at false o m q q' h = omega arith

more_asks : (x : ℕ) (rest : List Stretch) → request rest ≤ request_with x rest
more_asks x [] = omega arith
more_asks x (s ∷ rest) = more_asks_at (lies_along s.edge) (outer s) (x * more s) (request rest) (request_with x rest) (more_asks x rest)

asked_at : (b e : Bool) (o x q : ℕ) → (if b then e else false) ≡ true → (if b then o + x * (if e then 1 else 0) + q else max o q) ≡ o + x + q
asked_at true true o x q h = let one : x * 1 ≡ x = omega arith in rw one refl
asked_at true false o x q h = absurd cc
asked_at false e o x q h = absurd cc

-- a content that lies along the axis, where it and the rest get what they ask for: its share leaves the rest so much
leaves_at : (b : Bool) (r : ℕ) (s : Stretch) (rest : List Stretch) (x : ℕ) → takes_share s ≡ b → share r s rest ≡ x → outer s + request rest ≤ r → outer s + x + request rest ≤ r
leaves_at b r s rest zero t e h = omega arith
leaves_at true r s rest (suc x) t e h =
    let some : suc x ≤ share r s rest = rw e (omega arith) in
    let fit : request_with (suc x) (s ∷ rest) ≤ r = (most_that_fits r (suc x) s rest t (omega arith)).0 some in
    let is : request_with (suc x) (s ∷ rest) ≡ outer s + suc x + request_with (suc x) rest = asked_at (lies_along s.edge) s.expands (outer s) (suc x) (request_with (suc x) rest) t in
    let less = more_asks (suc x) rest in
    omega arith
leaves_at false r s rest (suc x) t e h = let none : share r s rest ≡ 0 = rw t refl in absurd (omega arith)

-- ---- a window in its parcel

in_room_length : (s : Stretch) (start room n : ℕ) → length_of (in_room s start room n) ≡ n
in_room_length s start room zero = refl
in_room_length s start room (suc n) = let some : (suc n == 0) ≡ false = search rules in rw some refl

shown_at : (fills : Bool) (i room : ℕ) → i ≤ room → i ≤ (if fills then room else min i room)
shown_at true i room h = h
shown_at false i room h = omega arith

room_at : (fills : Bool) (i room : ℕ) → i ≤ (if fills then room else min i room) → i ≤ room
room_at true i room h = h
room_at false i room h = omega arith

-- it has its length just where the parcel has what it asks for
gets : (s : Stretch) (parcel : Span) → outer s ≤ parcel.length → inner s ≤ length_of (within s parcel)
gets s parcel h =
    let room = parcel.length - 2 * s.padding in
    let fits : inner s ≤ room = omega arith in
    rw (in_room_length s parcel.start room (shown_length s room)) (shown_at s.fills (inner s) room fits)

got : (s : Stretch) (parcel : Span) → 1 ≤ inner s → inner s ≤ length_of (within s parcel) → outer s ≤ parcel.length
got s parcel some h =
    let room = parcel.length - 2 * s.padding in
    let shown : inner s ≤ shown_length s room = subst (λ n. inner s ≤ n) (in_room_length s parcel.start room (shown_length s room)) h in
    let fits : inner s ≤ room = room_at s.fills (inner s) room shown in
    omega arith

-- ---- parcels

parcel_has : (e : Edge) (l : ℕ) (cavity : Span) → (parcel_at e l cavity).length ≡ (if lies_along e then l else cavity.length)
parcel_has edge.Start l cavity = refl
parcel_has edge.End l cavity = refl
parcel_has edge.Neither l cavity = refl

behind_has : (e : Edge) (l : ℕ) (cavity : Span) → (behind e l cavity).length ≡ (if lies_along e then cavity.length - l else cavity.length)
behind_has edge.Start l cavity = refl
behind_has edge.End l cavity = refl
behind_has edge.Neither l cavity = refl

-- the parcel has what the content asks for, and behind it stands what the rest asks for, just where both fit
abbrev Fits : Bool → (r l o q : ℕ) → Type 0
Fits b r l o q = (o ≤ (if b then l else r)) × (q ≤ (if b then r - l else r))

parts_fit : (b : Bool) (r x o q : ℕ) → (o + q ≤ r → o + x + q ≤ r) → (if b then o + q else max o q) ≤ r → Fits b r (min r (o + x)) o q
parts_fit true r x o q leaves h = let k = leaves h in (omega arith, omega arith)
parts_fit false r x o q leaves h = (omega arith, omega arith)

whole_fits : (b : Bool) (r x o q : ℕ) → Fits b r (min r (o + x)) o q → (if b then o + q else max o q) ≤ r
whole_fits true r x o q h = let a = h.0 in let b = h.1 in omega arith
whole_fits false r x o q h = let a = h.0 in let b = h.1 in omega arith

-- ---- all contents

fit_all : (contents : List Stretch) (cavity : Span) → request contents ≤ cavity.length → AllGet contents (spans cavity contents)
fit_all [] cavity h = tt
fit_all (s ∷ rest) cavity h =
    let r = cavity.length in
    let l = parcel_length r s rest in
    let fit = parts_fit (lies_along s.edge) r (share r s rest) (outer s) (request rest) (leaves_at (takes_share s) r s rest (share r s rest) refl refl) h in (
      gets s (parcel_at s.edge l cavity) (rw (parcel_has s.edge l cavity) fit.0),
      fit_all rest (behind s.edge l cavity) (rw (behind_has s.edge l cavity) fit.1),
    )

all_fit : (contents : List Stretch) (cavity : Span) → AllAsk contents → AllGet contents (spans cavity contents) → request contents ≤ cavity.length
all_fit [] cavity some h = omega arith
all_fit (s ∷ rest) cavity some h =
    let r = cavity.length in
    let l = parcel_length r s rest in
    let first = got s (parcel_at s.edge l cavity) some.0 h.0 in
    let later = all_fit rest (behind s.edge l cavity) some.1 h.1 in
    whole_fits (lies_along s.edge) r (share r s rest) (outer s) (request rest)
    (subst (λ n. outer s ≤ n) (parcel_has s.edge l cavity) first, subst (λ n. request rest ≤ n) (behind_has s.edge l cavity) later)

pub least_that_fits : (cavity : Span) (contents : List Stretch) → AllAsk contents → AllGet contents (spans cavity contents) ↔ (request contents ≤ cavity.length)
least_that_fits cavity contents some = (all_fit contents cavity some, fit_all contents cavity)

-- ---- along both axes

has_size : (size : Extent) (h v : Option Span) → 1 ≤ size.width → 1 ≤ size.height → size.width ≤ length_of h → size.height ≤ length_of v → HasSize size (area h v)
has_size size (Some h) (Some v) w t a b = (a, b)
has_size size (Some h) None w t a b = absurd (omega arith)
has_size size None v w t a b = absurd (omega arith)

sizes : (size : ℕ → Extent) (contents : List Content) (hs vs : List (Option Span)) → AllHaveCells size contents → AllGet (horizontals size contents) hs → AllGet (verticals size contents) vs → AllHaveSizes size contents (areas hs vs)
sizes size [] hs vs some a b = tt
sizes size (c ∷ contents) [] vs some a b = absurd a
sizes size (c ∷ contents) (h ∷ hs) [] some a b = absurd b
sizes size (c ∷ contents) (h ∷ hs) (v ∷ vs) some a b =
    let wide = a.0 in
    let high = b.0 in
    (has_size (size c.window) h v some.0.0 some.0.1 (omega arith) (omega arith), sizes size contents hs vs some.1 a.1 b.1)

pub have_sizes : (size : ℕ → Extent) (container : Extent) (contents : List Content) → AllHaveCells size contents → request (horizontals size contents) ≤ container.width → request (verticals size contents) ≤ container.height → AllHaveSizes size contents (places size container contents)
have_sizes size container contents some wide high =
    sizes size contents _ _ some (fit_all (horizontals size contents) (record { start = 0; length = container.width }) wide)
    (fit_all (verticals size contents) (record { start = 0; length = container.height }) high)
