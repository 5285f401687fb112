-- Places in parcels, parcels in cavities.
use Rattle.std.proofs.Common.{◌≡◌, ℕ, zero, suc, ◌+◌, ◌-◌, ◌*◌, ◌≤◌, ◌==◌, min, Bool, true, false, if◌then◌else◌, List, [], ◌∷◌, Option, Some, None, arith, rules}
use Rattle.std.specs.List.{AllByRecursion}
use Rattle.tks_opt.specs.declared.alignment.Alignment.{Alignment}
use Rattle.tks_opt.specs.declared.alignment.Alignment.TheVariants as at
use Rattle.tks_opt.specs.Alignment.{gap}
use Rattle.tks_pack.specs.declared.line.Span.{Span}
use Rattle.tks_pack.specs.declared.stretch.Edge.{Edge}
use Rattle.tks_pack.specs.declared.stretch.Edge.TheVariants as edge
use Rattle.tks_pack.specs.declared.stretch.Stretch.{Stretch}
use Rattle.tks_pack.specs.Stretch.{inner, outer}
use Rattle.tks_pack.specs.Packer.{share, parcel_length, parcel_at, behind, shown_length, in_room, within, spans}

-- a place, if there is one, has a cell and lies in a cavity
abbrev pub Within : Span → Option Span → Type 0
Within c None = Unit {0}
Within c (Some p) = (c.start ≤ p.start) × (p.start + p.length ≤ c.start + c.length) × (1 ≤ p.length)

abbrev pub Part : Span → Span → Type 0
Part c p = (c.start ≤ p.start) × (p.start + p.length ≤ c.start + c.length)

pub widen : (c p : Span) (o : Option Span) → Part c p → Within p o → Within c o
widen c p None k h = tt
widen c p (Some x) k h = (omega arith, omega arith, h.2)

pub all_more : {A : Type 0} (P Q : A → Type 0) (f : (x : A) → P x → Q x) (l : List A) → AllByRecursion P l → AllByRecursion Q l
all_more P Q f [] h = tt
all_more P Q f (x ∷ l) h = (f x h.0, all_more P Q f l h.1)

gap_small : (a : Alignment) (free : ℕ) → gap a free ≤ free
gap_small at.Start free = omega arith
gap_small at.Middle free = omega arith
gap_small at.End free = omega arith

shown_small : (s : Stretch) (room : ℕ) → shown_length s room ≤ room
shown_small s room = let P : Bool → Type 0 = λ b. (if b then room else min (inner s) room) ≤ room in
    elim s.fills as P [ true ↦ omega arith | false ↦ omega arith ]

in_room_within : (s : Stretch) (parcel : Span) (length : ℕ) → length ≤ parcel.length - 2 * s.padding → Within parcel (in_room s parcel.start (parcel.length - 2 * s.padding) length)
in_room_within s parcel zero h = tt
in_room_within s parcel (suc k) h =
    let free : ℕ = parcel.length - 2 * s.padding - suc k in
    let small : gap s.alignment free ≤ free = gap_small s.alignment free in
    let some : (suc k == 0) ≡ false = search rules in
    rw some (omega arith, omega arith, omega arith)

pub in_parcel : (s : Stretch) (parcel : Span) → Within parcel (within s parcel)
in_parcel s parcel = let room : ℕ = parcel.length - 2 * s.padding in in_room_within s parcel (shown_length s room) (shown_small s room)

pub parcel_part : (e : Edge) (l : ℕ) (c : Span) → l ≤ c.length → Part c (parcel_at e l c)
parcel_part edge.Start l c h = (omega arith, omega arith)
parcel_part edge.End l c h = (omega arith, omega arith)
parcel_part edge.Neither l c h = (omega arith, omega arith)

pub behind_part : (e : Edge) (l : ℕ) (c : Span) → l ≤ c.length → Part c (behind e l c)
behind_part edge.Start l c h = (omega arith, omega arith)
behind_part edge.End l c h = (omega arith, omega arith)
behind_part edge.Neither l c h = (omega arith, omega arith)

pub parcel_small : (r : ℕ) (s : Stretch) (rest : List Stretch) → parcel_length r s rest ≤ r
parcel_small r s rest = let n : ℕ = outer s + share r s rest in let h : min r n ≤ r = omega arith in h

pub all_within : (c : Span) (l : List Stretch) → AllByRecursion (Within c) (spans c l)
all_within c [] = tt
all_within c (s ∷ rest) =
    let n : ℕ = parcel_length c.length s rest in
    let small : n ≤ c.length = parcel_small c.length s rest in
    let parcel : Span = parcel_at s.edge n c in
    let left : Span = behind s.edge n c in (
      widen c parcel (within s parcel) (parcel_part s.edge n c small) (in_parcel s parcel),
      all_more (Within left) (Within c) (λ o. widen c left o (behind_part s.edge n c small)) (spans left rest) (all_within left rest),
    )

-- ---- order

-- the first place is nearer to the edge than the second
abbrev pub Ahead : Edge → Span → Span → Type 0
Ahead edge.Start a b = a.start + a.length ≤ b.start
Ahead edge.End a b = b.start + b.length ≤ a.start
Ahead edge.Neither a b = Unit {0}

abbrev pub AheadOf : Edge → Option Span → Option Span → Type 0
AheadOf e None b = Unit {0}
AheadOf e (Some a) None = Unit {0}
AheadOf e (Some a) (Some b) = Ahead e a b

ahead_some : (e : Edge) (l : ℕ) (c a b : Span) → l ≤ c.length → Part (parcel_at e l c) a → Part (behind e l c) b → Ahead e a b
ahead_some edge.Start l c a b h p q = omega arith
ahead_some edge.End l c a b h p q = omega arith
ahead_some edge.Neither l c a b h p q = tt

pub ahead : (e : Edge) (l : ℕ) (c : Span) (a b : Option Span) → l ≤ c.length → Within (parcel_at e l c) a → Within (behind e l c) b → AheadOf e a b
ahead e l c None b h p q = tt
ahead e l c (Some a) None h p q = tt
ahead e l c (Some a) (Some b) h p q = ahead_some e l c a b h (p.0, p.1) (q.0, q.1)
