-- What a packed window asks for along one axis. The packer treats the two axes alike, and apart from one
-- another: what it does from left to right doesn't depend on any height.
use Rattle.std.specs.Prelude.{ℕ, ◌+◌, ◌*◌, Bool, true, false, if◌then◌else◌}
use Rattle.tks_opt.specs.Alignment as alignment
use Rattle.tks_pack.specs.declared.area.Extent.{Extent}
use Rattle.tks_pack.specs.declared.settings.Settings.{Settings}
use Rattle.tks_pack.specs.declared.settings.Side.{Side}
use Rattle.tks_pack.specs.declared.settings.Side.TheVariants as side
use Rattle.tks_pack.specs.declared.settings.Fill.{Fill}
use Rattle.tks_pack.specs.declared.settings.Fill.TheVariants as fill
use Rattle.tks_pack.specs.declared.stretch.Edge.{Edge}
use Rattle.tks_pack.specs.declared.stretch.Edge.TheVariants as edge
use Rattle.tks_pack.specs.declared.stretch.Stretch.{Stretch}

-- the edge of the cavity that the side is, from left to right; top and bottom are neither
abbrev pub horizontal_edge : Side → Edge
horizontal_edge side.Top = edge.Neither
horizontal_edge side.Bottom = edge.Neither
horizontal_edge side.Left = edge.Start
horizontal_edge side.Right = edge.End

abbrev pub vertical_edge : Side → Edge
vertical_edge side.Top = edge.Start
vertical_edge side.Bottom = edge.End
vertical_edge side.Left = edge.Neither
vertical_edge side.Right = edge.Neither

abbrev pub fills_horizontally : Fill → Bool
fills_horizontally fill.Neither = false
fills_horizontally fill.X = true
fills_horizontally fill.Y = false
fills_horizontally fill.Both = true

abbrev pub fills_vertically : Fill → Bool
fills_vertically fill.Neither = false
fills_vertically fill.X = false
fills_vertically fill.Y = true
fills_vertically fill.Both = true

-- what a window of this size, packed so, asks for from left to right
abbrev pub horizontal : Settings → Extent → Stretch
horizontal p size = record {
  edge = horizontal_edge p.side;
  expands = p.expand;
  fills = fills_horizontally p.fill;
  alignment = alignment.horizontal p.anchor;
  requested = size.width;
  inner_padding = p.ipadx;
  padding = p.padx;
}

-- and from top to bottom
abbrev pub vertical : Settings → Extent → Stretch
vertical p size = record {
  edge = vertical_edge p.side;
  expands = p.expand;
  fills = fills_vertically p.fill;
  alignment = alignment.vertical p.anchor;
  requested = size.height;
  inner_padding = p.ipady;
  padding = p.pady;
}

-- whether it lies behind others along the axis
abbrev pub lies_along : Edge → Bool
lies_along edge.Start = true
lies_along edge.End = true
lies_along edge.Neither = false

-- whether it shares what is left over along the axis
abbrev pub takes_share : Stretch → Bool
takes_share s = if lies_along s.edge then s.expands else false

-- the length of the window, as it asks for it: its requested size and twice its inner padding
abbrev pub inner : Stretch → ℕ
inner s = s.requested + 2 * s.inner_padding

-- the same and twice its padding
abbrev pub outer : Stretch → ℕ
outer s = inner s + 2 * s.padding
