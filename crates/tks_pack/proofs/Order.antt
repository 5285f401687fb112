-- Windows' cells by their places along the axes: inside the container, and in order.
use Rattle.std.proofs.Common.{ℕ, List, [], ◌∷◌, Option, Some, None, arith}
use Rattle.std.specs.List.{AllByRecursion}
use Rattle.tks_pack.specs.declared.area.Extent.{Extent}
use Rattle.tks_pack.specs.declared.line.Span.{Span}
use Rattle.tks_pack.specs.declared.packing.Content.{Content}
use Rattle.tks_pack.specs.declared.settings.Side.{Side}
use Rattle.tks_pack.specs.declared.settings.Side.TheVariants as side
use Rattle.tks_pack.specs.declared.stretch.Stretch.{Stretch}
use Rattle.tks_pack.specs.Laws.{LiesInside, Nearer, InOrder}
use Rattle.tks_pack.specs.Packer.{spans, parcel_length, parcel_at, behind, within}
use Rattle.tks_pack.specs.Packing.{area, areas, horizontals, verticals, places}
use Rattle.tks_pack.specs.Stretch.{horizontal, vertical, horizontal_edge, vertical_edge}
use Rattle.tks_pack.proofs.Inside.{Within, AheadOf, ahead, all_more, all_within, in_parcel, parcel_small}

abbrev whole : ℕ → Span
whole n = record { start = 0; length = n }

area_inside : (c : Extent) (h v : Option Span) → Within (whole c.width) h → Within (whole c.height) v → LiesInside c (area h v)
area_inside c (Some h) (Some v) p q = (p.2, omega arith, q.2, omega arith)
area_inside c (Some h) None p q = tt
area_inside c None v p q = tt

areas_inside : (c : Extent) (hs vs : List (Option Span)) → AllByRecursion (Within (whole c.width)) hs → AllByRecursion (Within (whole c.height)) vs → AllByRecursion (LiesInside c) (areas hs vs)
areas_inside c [] vs p q = tt
areas_inside c (h ∷ hs) [] p q = tt
areas_inside c (h ∷ hs) (v ∷ vs) p q = (area_inside c h v p.0 q.0, areas_inside c hs vs p.1 q.1)

pub places_inside : (size : ℕ → Extent) (container : Extent) (contents : List Content) → AllByRecursion (LiesInside container) (places size container contents)
places_inside size c contents = areas_inside c _ _ (all_within (whole c.width) (horizontals size contents)) (all_within (whole c.height) (verticals size contents))

nearer : (s : Side) (h v h' v' : Option Span) → AheadOf (horizontal_edge s) h h' → AheadOf (vertical_edge s) v v' → Nearer s (area h v) (area h' v')
nearer side.Top (Some h) (Some v) (Some h') (Some v') p q = q
nearer side.Bottom (Some h) (Some v) (Some h') (Some v') p q = q
nearer side.Left (Some h) (Some v) (Some h') (Some v') p q = p
nearer side.Right (Some h) (Some v) (Some h') (Some v') p q = p
nearer s (Some h) (Some v) (Some h') None p q = tt
nearer s (Some h) (Some v) None v' p q = tt
nearer s (Some h) None h' v' p q = tt
nearer s None v h' v' p q = tt

all_nearer : (s : Side) (h v : Option Span) (hs vs : List (Option Span)) → AllByRecursion (AheadOf (horizontal_edge s) h) hs → AllByRecursion (AheadOf (vertical_edge s) v) vs → AllByRecursion (Nearer s (area h v)) (areas hs vs)
all_nearer s h v [] vs p q = tt
all_nearer s h v (h' ∷ hs) [] p q = tt
all_nearer s h v (h' ∷ hs) (v' ∷ vs) p q = (nearer s h v h' v' p.0 q.0, all_nearer s h v hs vs p.1 q.1)

-- what is packed first lies ahead of the rest
all_ahead : (c : Span) (s : Stretch) (rest : List Stretch) →
    AllByRecursion (AheadOf s.edge (within s (parcel_at s.edge (parcel_length c.length s rest) c))) (spans (behind s.edge (parcel_length c.length s rest) c) rest)
all_ahead c s rest =
    let n : ℕ = parcel_length c.length s rest in
    let left : Span = behind s.edge n c in
    let parcel : Span = parcel_at s.edge n c in
    all_more (Within left) (AheadOf s.edge (within s parcel)) (λ o. ahead s.edge n c (within s parcel) o (parcel_small c.length s rest) (in_parcel s parcel)) (spans left rest) (all_within left rest)

pub in_order : (size : ℕ → Extent) (contents : List Content) (h v : Span) → InOrder contents (areas (spans h (horizontals size contents)) (spans v (verticals size contents)))
in_order size [] h v = tt
in_order size (c ∷ contents) h v =
    let across : Stretch = horizontal c.settings (size c.window) in
    let down : Stretch = vertical c.settings (size c.window) in (
      all_nearer c.settings.side _ _ _ _ (all_ahead h across (horizontals size contents)) (all_ahead v down (verticals size contents)),
      in_order size contents _ _,
    )
