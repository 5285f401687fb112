-- What a text widget asks for and shows (text(n); which lines are seen of a text that is too long, and that lines are cut
-- and not wrapped, are this project's own rules).
use Rattle.std.specs.Prelude.{ℕ, ◌+◌, ◌-◌, List, take, drop, Option, Some, None, option_and_then}
use Rattle.std.specs.List.{prefix_len}
use Rattle.tks_opt.specs.Cells.{line_cell, rows}
use Rattle.tks_opt.specs.Options.{Options, value_in}
use Rattle.tks_opt.specs.Table.{max_size}
use Rattle.tks_opt.specs.Values.{number_within}
use Rattle.tks_opt.specs.declared.name.OptionName.{OptionName}
use Rattle.tks_opt.specs.declared.name.OptionName.TheVariants as name
use Rattle.tks_lines.specs.declared.parts.Mark.{Mark}
use Rattle.tks_lines.specs.Lines.{Lines, mark_named, cursor_name}
use Rattle.tks_lines.specs.Places.{is_inner, lines_before, place_at}

abbrev pub or_none : Option ℕ → ℕ
or_none None = 0
or_none (Some n) = n

-- the cells that an option asks for
abbrev pub asked : Options → OptionName → ℕ
asked options option = or_none (option_and_then (number_within 0 max_size) (value_in options.values option))

abbrev pub requested_width : Lines → ℕ
requested_width t = asked t.options name.Width

abbrev pub requested_height : Lines → ℕ
requested_height t = asked t.options name.Height

abbrev pub place_or_first : Option Mark → ℕ
place_or_first None = 0
place_or_first (Some m) = m.place

-- the place of the mark `insert`
abbrev pub cursor_place : Lines → ℕ
cursor_place t = place_or_first (mark_named cursor_name t.marks)

-- how many lines are above the first one that is seen: the last row of the widget, as high as it asks to be, is the line
-- of `insert` at the furthest
abbrev pub first_seen : Lines → ℕ
first_seen t = lines_before t.text (cursor_place t) + 1 - requested_height t

-- the characters up to a newline
abbrev pub front_line : List ℕ → List ℕ
front_line t = take (prefix_len is_inner t) t

-- the line behind so many others; behind the last one, none
abbrev pub line_text : List ℕ → ℕ → List ℕ
line_text text lines = front_line (drop (place_at text lines (Some 0)) text)

-- what stands in a column of a line, where lines are counted from the first one that is seen
abbrev pub line_seen : List ℕ → ℕ → ℕ → ℕ → ℕ
line_seen text first x y = line_cell (line_text text (first + y)) 0 x

-- the rows of its area, each cell by its column and its row
abbrev pub shown : Lines → ℕ → ℕ → List (List ℕ)
shown t width height = rows (line_seen t.text (first_seen t)) width height
