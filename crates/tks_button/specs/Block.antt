-- A block of lines in an area (options(n), `-anchor`; that its lines begin in one column, and what is cut, are
-- this project's own rules).
use Rattle.std.specs.Prelude.{ℕ, ◌-◌, ◌==◌, nat_lt, max, if◌then◌else◌, List, [], ◌∷◌, length, slice_get}
use Rattle.std.specs.List.{slice_split}
use Rattle.tks_opt.specs.Alignment.{horizontal, vertical, gap}
use Rattle.tks_opt.specs.Cells.{line_cell}
use Rattle.tks_opt.specs.declared.anchor.Anchor.{Anchor}
use Rattle.tks_button.specs.Sizes.{or_else}

-- the lines of a text, with a newline between any two; the empty text has one
abbrev pub lines : List ℕ → List (List ℕ)
lines text = slice_split (λ b. b == 10) text

-- the length of the longest one
abbrev pub longest : List (List ℕ) → ℕ
longest [] = 0
longest (line ∷ rest) = max (length line) (longest rest)

-- the column of an area in which the block begins: none is free where the block is as wide or wider, and then it
-- begins in the first
abbrev pub left_of : List (List ℕ) → Anchor → ℕ → ℕ
left_of block anchor width = gap (horizontal anchor) (width - longest block)

-- the row of its first line
abbrev pub top_of : List (List ℕ) → Anchor → ℕ → ℕ
top_of block anchor height = gap (vertical anchor) (height - length block)

-- the line in a row, where the first is in the row `top`; none, as a line without characters, above and below
abbrev pub line_in_row : List (List ℕ) → ℕ → ℕ → List ℕ
line_in_row block top y = if nat_lt y top then [] else or_else [] (slice_get block (y - top))

-- the character of a cell of an area in which a block stands
abbrev pub block_cell : List (List ℕ) → Anchor → ℕ → ℕ → ℕ → ℕ → ℕ
block_cell block anchor width height x y = line_cell (line_in_row block (top_of block anchor height) y) (left_of block anchor width) x
