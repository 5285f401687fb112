-- What the screen shows (this project's own rule): in each cell of the grid the character of the last window in
-- drawing order that covers it.
use Rattle.std.specs.Prelude.{ℕ, ◌-◌, List, [], Option, Some, None, slice_get}
use Rattle.tks_text.specs.Size.{Extent}
use Rattle.tks_opt.specs.Cells.{space, rows}
use Rattle.tks_vars.specs.Variables.{Variables}
use Rattle.tks_state.specs.Links as links
use Rattle.tks_state.specs.Windows.{kept_of, on_kept}
use Rattle.tks_state.specs.World.{World}
use Rattle.tks_state.specs.Layout.{topmost}
use Rattle.tks_state.specs.declared.kept.Kept.{Kept}
use Rattle.tks_state.specs.declared.layout.Placed.{Placed}

-- a grid of characters: its size, and its rows
pub record Picture : Type 0 where
  pub size : Extent
  pub rows : List (List ℕ)

-- spaces alone
abbrev pub blank : Extent → Picture
blank size = record { size = size; rows = rows (λ _ _. space) size.width size.height }

abbrev pub or_space : Option ℕ → ℕ
or_space None = space
or_space (Some c) = c

abbrev pub in_row : Option (List ℕ) → ℕ → ℕ
in_row None x = space
in_row (Some cells) x = or_space (slice_get cells x)

-- the character in a column and a row
abbrev pub cell_in : List (List ℕ) → ℕ → ℕ → ℕ
cell_in cells x y = in_row (slice_get cells y) x

-- the rows of characters that a window shows in its area
abbrev pub rows_of : Variables → List Kept → Placed → List (List ℕ)
rows_of variables kept p = on_kept (kept_of kept p.window) [] (λ k. links.shown variables k.widget p.area.width p.area.height)

-- the character of a window in a cell of the grid
abbrev pub seen : Variables → List Kept → Option Placed → ℕ → ℕ → ℕ
seen variables kept None x y = space
seen variables kept (Some p) x y = cell_in (rows_of variables kept p) (x - p.area.x) (y - p.area.y)

-- what a cell shows
abbrev pub character : World → ℕ → ℕ → ℕ
character w x y = seen w.variables w.kept (topmost w x y) x y

-- what the screen shows, row by row
abbrev pub shown : World → List (List ℕ)
shown w = rows (character w) w.grid.width w.grid.height
