-- Where an anchor puts something along each axis (options(n), `-anchor`).
use Rattle.std.specs.Prelude.{ℕ, ◌/◌}
use Rattle.tks_opt.specs.declared.anchor.Anchor.{Anchor}
use Rattle.tks_opt.specs.declared.anchor.Anchor.TheVariants as anchor
use Rattle.tks_opt.specs.declared.alignment.Alignment.{Alignment}
use Rattle.tks_opt.specs.declared.alignment.Alignment.TheVariants as at

-- from left to right
abbrev pub horizontal : Anchor → Alignment
horizontal anchor.Center = at.Middle
horizontal anchor.North = at.Middle
horizontal anchor.NorthEast = at.End
horizontal anchor.East = at.End
horizontal anchor.SouthEast = at.End
horizontal anchor.South = at.Middle
horizontal anchor.SouthWest = at.Start
horizontal anchor.West = at.Start
horizontal anchor.NorthWest = at.Start

-- from top to bottom
abbrev pub vertical : Anchor → Alignment
vertical anchor.Center = at.Middle
vertical anchor.North = at.Start
vertical anchor.NorthEast = at.Start
vertical anchor.East = at.Middle
vertical anchor.SouthEast = at.End
vertical anchor.South = at.End
vertical anchor.SouthWest = at.End
vertical anchor.West = at.Middle
vertical anchor.NorthWest = at.Start

-- how many of the free cells stand before it; a half is rounded down
abbrev pub gap : Alignment → ℕ → ℕ
gap at.Start free = 0
gap at.Middle free = free / 2
gap at.End free = free
