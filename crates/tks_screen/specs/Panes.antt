-- What the windows show, one over the other: each as its rows of characters, at its place on the grid.
use Rattle.std.specs.Prelude.{ℕ, ◌-◌, if◌then◌else◌, List, [], map, length, get_or}
use Rattle.std.specs.List.{range_with_len}
use Rattle.tks_opt.specs.Cells.{space}
use Rattle.tks_vars.specs.Variables.{Variables}
use Rattle.tks_state.specs.Layout.{covers, last_over}
use Rattle.tks_state.specs.declared.kept.Kept.{Kept}
use Rattle.tks_state.specs.declared.layout.Placed.{Placed}
use Rattle.tks_screen.specs.Screen.{cell_in, rows_of, seen}
use Rattle.tks_screen.specs.declared.pane.Pane.{Pane}

abbrev pub pane_of : Variables → List Kept → Placed → Pane
pane_of variables kept p = record { area = p.area; rows = rows_of variables kept p }

abbrev pub cell_of : Pane → ℕ → ℕ → ℕ
cell_of p x y = cell_in p.rows (x - p.area.x) (y - p.area.y)

-- a pane painted over what is below it, cell by cell
abbrev pub over : Pane → ℕ → ℕ → ℕ → ℕ
over p below x y = if covers p.area x y then cell_of p x y else below

-- the same for the cells of a line of the grid
abbrev pub over_row : Pane → ℕ → List ℕ → List ℕ
over_row p y cells = map (λ x. over p (get_or cells x space) x y) (range_with_len 0 (length cells))

-- and for all its lines
abbrev pub over_rows : Pane → List (List ℕ) → List (List ℕ)
over_rows p cells = map (λ y. over_row p y (get_or cells y [])) (range_with_len 0 (length cells))

-- the character in a cell where these windows are shown, in drawing order
abbrev pub character_of : Variables → List Kept → List Placed → ℕ → ℕ → ℕ
character_of variables kept shown x y = seen variables kept (last_over shown x y) x y
