-- What a label asks for and shows, and a button too (label(n), button(n); that sizes are counts of characters is this
-- project's own rule).
use Rattle.std.specs.Prelude.{ℕ, ◌==◌, if◌then◌else◌, List, length}
use Rattle.tks_opt.specs.Cells.{rows}
use Rattle.tks_opt.specs.Options.{Options}
use Rattle.tks_opt.specs.declared.name.OptionName.TheVariants as name
use Rattle.tks_button.specs.Sizes.{size_of, text_of, anchor_of}
use Rattle.tks_button.specs.Block.{lines, longest, block_cell}

-- a width of 0 is that of the longest line
abbrev pub or_longest : ℕ → List ℕ → ℕ
or_longest width text = if width == 0 then longest (lines text) else width

abbrev pub requested_width : Options → ℕ
requested_width t = or_longest (size_of t name.Width) (text_of t)

abbrev pub requested_height : Options → ℕ
requested_height t = length (lines (text_of t))

-- the rows of its area, each cell by its column and its row
abbrev pub shown : Options → ℕ → ℕ → List (List ℕ)
shown t width height = rows (block_cell (lines (text_of t)) (anchor_of t) width height) width height
