-- The characters that windows show, cell by cell (this project's own rules).
use Rattle.std.specs.Prelude.{ℕ, ◌-◌, ◌==◌, ◌||◌, nat_lt, if◌then◌else◌, List, map, Option, Some, None, slice_get}
use Rattle.std.specs.List.{range_with_len}

abbrev pub space : ℕ
space = 32

-- a tab and a newline show as a space, any other byte of a text as itself
abbrev pub shown_byte : ℕ → ℕ
shown_byte b = if (b == 9) || (b == 10) then space else b

-- what stands at a place, if anything
abbrev pub character : Option ℕ → ℕ
character None = space
character (Some b) = shown_byte b

-- the character of a line in a column, where it begins in the column `left`
abbrev pub line_cell : List ℕ → ℕ → ℕ → ℕ
line_cell line left x = if nat_lt x left then space else character (slice_get line (x - left))

-- a row of so many cells, each by its column
abbrev pub row : (ℕ → ℕ) → ℕ → List ℕ
row cell width = map cell (range_with_len 0 width)

-- so many rows, each cell by its column and its row
abbrev pub rows : (ℕ → ℕ → ℕ) → ℕ → ℕ → List (List ℕ)
rows cell width height = map (λ y. row (λ x. cell x y) width) (range_with_len 0 height)
