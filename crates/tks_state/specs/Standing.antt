-- Where a window stands, said of one window at a time (pack(n), "The packer algorithm"; that `.` has the grid is this project's
-- own rule).
use Rattle.std.specs.Prelude.{◌≡◌, ◌↔◌, ℕ, ◌+◌, ◌≤◌, List, ◌∷◌, Option, Some}
use Rattle.std.specs.FinMap as map
use Rattle.tks_pack.specs.Packing.{places}
use Rattle.tks_pack.specs.declared.area.Area.{Area}
use Rattle.tks_pack.specs.declared.packing.Content.{Content}
use Rattle.tks_state.specs.Layout.{size_in, sizes, on_grid, extent_of, grid_area, placed}
use Rattle.tks_state.specs.World.{World}
use Rattle.tks_state.specs.declared.kept.Kept.{Kept}

-- this is what is kept of one of the windows
pub data IsAmong (k : Kept) : List Kept → Type 0 where
  here : (kept : List Kept) → IsAmong k (k ∷ kept)
  further : (other : Kept) (kept : List Kept) → IsAmong k kept → IsAmong k (other ∷ kept)

-- of contents and their places, side by side, this content has this place
pub data HasPlace (c : Content) (a : Area) : List Content → List (Option Area) → Type 0 where
  here : (contents : List Content) (places : List (Option Area)) → HasPlace c a (c ∷ contents) (Some a ∷ places)
  further : (other : Content) (place : Option Area) (contents : List Content) (places : List (Option Area)) → HasPlace c a contents places → HasPlace c a (other ∷ contents) (place ∷ places)

-- the cells that the packer gives a content in its container, which has these cells
abbrev pub GivesPlace : World → Kept → Area → Content → Area → Type 0
GivesPlace w k container c a = HasPlace c a k.packing.contents (places (size_in (sizes w.variables w.kept)) (extent_of container) k.packing.contents)

-- the window of a number has these cells of the grid: `.` has all of it, and a content of a window that has cells the place that
-- the packer gives it there
pub data StandsAt (w : World) : ℕ → Area → Type 0 where
  root : StandsAt w 0 (grid_area w.grid)
  content : (k : Kept) (container : Area) (c : Content) (a : Area) → IsAmong k w.kept → StandsAt w k.window container → GivesPlace w k container c a → StandsAt w c.window (on_grid container a)

-- the cells that the layout gives to windows are these, and no others
abbrev pub LaysOut : World → Type 0
LaysOut w = (n : ℕ) (a : Area) → (map.get (placed w) n ≡ Some a) ↔ StandsAt w n a

-- cells lie within others
abbrev pub LiesWithin : Area → Area → Type 0
LiesWithin outer a =
    (outer.x ≤ a.x) × (a.x + a.width ≤ outer.x + outer.width) × (outer.y ≤ a.y) × (a.y + a.height ≤ outer.y + outer.height)

-- a content's cells lie within those of its container
abbrev pub StaysWithin : World → Type 0
StaysWithin w = (k : Kept) (container : Area) (c : Content) (a : Area) → GivesPlace w k container c a → LiesWithin container (on_grid container a)
