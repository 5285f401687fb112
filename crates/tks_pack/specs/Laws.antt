-- What a user of the packer would doubt (pack(n), "The packer algorithm"), said of its places and shares.
use Rattle.std.specs.Prelude.{◌≡◌, ℕ, ◌+◌, ◌<◌, ◌≤◌, ◌^◌, List, [], ◌∷◌, Option, Some, None}
use Rattle.std.specs.List.{AllByRecursion}
use Rattle.tks_pack.specs.declared.area.Area.{Area}
use Rattle.tks_pack.specs.declared.area.Extent.{Extent}
use Rattle.tks_pack.specs.declared.line.Span.{Span}
use Rattle.tks_pack.specs.declared.packing.Content.{Content}
use Rattle.tks_pack.specs.declared.settings.Side.{Side}
use Rattle.tks_pack.specs.declared.settings.Side.TheVariants as side
use Rattle.tks_pack.specs.declared.stretch.Stretch.{Stretch}
use Rattle.tks_pack.specs.Packing.{capped}
use Rattle.tks_pack.specs.Stretch.{inner}

-- a window has at least a cell, and lies inside its container
abbrev pub LiesInside : Extent → Option Area → Type 0
LiesInside container None = Unit {0}
LiesInside container (Some a) =
    (1 ≤ a.width) × (a.x + a.width ≤ container.width) × (1 ≤ a.height) × (a.y + a.height ≤ container.height)

-- a lies nearer to this side than b, and they don't overlap
abbrev pub NearerTo : Side → Area → Area → Type 0
NearerTo side.Top a b = a.y + a.height ≤ b.y
NearerTo side.Bottom a b = b.y + b.height ≤ a.y
NearerTo side.Left a b = a.x + a.width ≤ b.x
NearerTo side.Right a b = b.x + b.width ≤ a.x

-- the same where both are mapped
abbrev pub Nearer : Side → Option Area → Option Area → Type 0
Nearer s None b = Unit {0}
Nearer s (Some a) None = Unit {0}
Nearer s (Some a) (Some b) = NearerTo s a b

-- each window lies nearer to its side than all that are packed after it
abbrev pub InOrder : List Content → List (Option Area) → Type 0
InOrder [] places = Unit {0}
InOrder (c ∷ contents) [] = Unit {0}
InOrder (c ∷ contents) (a ∷ places) = AllByRecursion (Nearer c.settings.side a) places × InOrder contents places

-- ---- in a container as large as its contents ask for

-- how long a window's place along an axis is
abbrev pub length_of : Option Span → ℕ
length_of None = 0
length_of (Some place) = place.length

-- each has at least the length that it asks for
abbrev pub AllGet : List Stretch → List (Option Span) → Type 0
AllGet [] places = Unit {0}
AllGet (s ∷ rest) [] = ⊥
AllGet (s ∷ rest) (place ∷ places) = (inner s ≤ length_of place) × AllGet rest places

-- each asks for a cell at least
abbrev pub AllAsk : List Stretch → Type 0
AllAsk contents = AllByRecursion (λ s. 1 ≤ inner s) contents

-- a window has cells, at least as many along each axis as this size
abbrev pub HasSize : Extent → Option Area → Type 0
HasSize size None = ⊥
HasSize size (Some a) = (size.width ≤ a.width) × (size.height ≤ a.height)

abbrev pub AllHaveSizes : (ℕ → Extent) → List Content → List (Option Area) → Type 0
AllHaveSizes size [] places = Unit {0}
AllHaveSizes size (c ∷ contents) [] = ⊥
AllHaveSizes size (c ∷ contents) (place ∷ places) = HasSize (size c.window) place × AllHaveSizes size contents places

-- each has a size of a cell at least
abbrev pub AllHaveCells : (ℕ → Extent) → List Content → Type 0
AllHaveCells size contents = AllByRecursion (λ c. (1 ≤ (size c.window).width) × (1 ≤ (size c.window).height)) contents

-- ---- requests of more than 2^32 - 1 cells (this project's own rule)

-- so many cells are told as they are, or as 2^32 - 1 where they are more
abbrev pub IsToldAs : ℕ → ℕ → Type 0
IsToldAs cells told = (told < 2 ^ 32) × (cells < 2 ^ 32 → told ≡ cells) × (2 ^ 32 ≤ cells → told + 1 ≡ 2 ^ 32)

-- a size as a window tells it
abbrev pub told_size : Extent → Extent
told_size size = record { width = capped size.width; height = capped size.height }
