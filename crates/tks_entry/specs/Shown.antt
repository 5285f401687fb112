-- What an entry asks for and shows (entry(n); which characters are seen of a text that is too long is this project's
-- own rule).
use Rattle.std.specs.Prelude.{ℕ, ◌+◌, ◌-◌, ◌==◌, max, if◌then◌else◌, List, [], ◌∷◌, length, drop, replicate, Option, Some, None, option_and_then}
use Rattle.tks_opt.specs.Cells.{space, line_cell, rows}
use Rattle.tks_opt.specs.Options.{value_in}
use Rattle.tks_opt.specs.Table.{max_size}
use Rattle.tks_opt.specs.Values.{number_within}
use Rattle.tks_opt.specs.declared.name.OptionName.TheVariants as name
use Rattle.tks_entry.specs.Entry.{Entry, cursor_place}

-- a width of 0 is that of the text, and one at least
abbrev pub or_length : Option ℕ → ℕ → ℕ
or_length None len = max 1 len
or_length (Some width) len = if width == 0 then max 1 len else width

abbrev pub requested_width : Entry → ℕ
requested_width e = or_length (option_and_then (number_within 0 max_size) (value_in e.options.values name.Width)) (length e.text)

-- `-show`: its first character in the place of each
abbrev pub masked_by : Option (List ℕ) → List ℕ → List ℕ
masked_by None text = text
masked_by (Some []) text = text
masked_by (Some (c ∷ rest)) text = replicate (length text) c

-- what stands for its text
abbrev pub masked : Entry → List ℕ
masked e = masked_by (value_in e.options.values name.Show) e.text

-- the place of the first character that is seen: the last column of the entry, as wide as it asks to be, is the
-- cursor's at the furthest
abbrev pub first_seen : Entry → ℕ
first_seen e = cursor_place e + 1 - requested_width e

abbrev pub seen : Entry → List ℕ
seen e = drop (first_seen e) (masked e)

-- a line in the first row
abbrev pub line_in_first : List ℕ → ℕ → ℕ → ℕ
line_in_first line x y = if y == 0 then line_cell line 0 x else space

-- the rows of its area, each cell by its column and its row
abbrev pub shown : Entry → ℕ → ℕ → List (List ℕ)
shown e width height = rows (line_in_first (seen e)) width height
