-- What a listbox asks for and shows (listbox(n); which items are seen of too many is this project's own rule).
use Rattle.std.specs.Prelude.{ℕ, ◌+◌, ◌-◌, ◌==◌, max, if◌then◌else◌, List, [], ◌∷◌, length, Option, Some, None, option_and_then, slice_get}
use Rattle.tks_opt.specs.Cells.{line_cell, rows}
use Rattle.tks_opt.specs.Options.{value_in}
use Rattle.tks_opt.specs.Table.{max_size}
use Rattle.tks_opt.specs.Values.{number_within}
use Rattle.tks_opt.specs.declared.name.OptionName.{OptionName}
use Rattle.tks_opt.specs.declared.name.OptionName.TheVariants as name
use Rattle.tks_listbox.specs.Listbox.{Listbox}
use Rattle.tks_listbox.specs.declared.item.Item.{Item}

-- what `-width` or `-height` says
abbrev pub size_of : Listbox → OptionName → Option ℕ
size_of l o = option_and_then (number_within 0 max_size) (value_in l.options.values o)

-- 0 is as many as are needed, one at least
abbrev pub or_needed : Option ℕ → ℕ → ℕ
or_needed None needed = max 1 needed
or_needed (Some size) needed = if size == 0 then max 1 needed else size

-- the length of the longest item
abbrev pub longest : List Item → ℕ
longest [] = 0
longest (item ∷ items) = max (length item.text) (longest items)

abbrev pub requested_width : Listbox → ℕ
requested_width l = or_needed (size_of l name.Width) (longest l.items)

abbrev pub requested_height : Listbox → ℕ
requested_height l = or_needed (size_of l name.Height) (length l.items)

-- the place of the first item that is seen: the last row of the listbox, as high as it asks to be, is the active item's at
-- the furthest
abbrev pub top : Listbox → ℕ
top l = l.active + 1 - requested_height l

abbrev pub text_of : Option Item → List ℕ
text_of None = []
text_of (Some item) = item.text

-- an item in each row, those from one on, each from its first character on
abbrev pub row_from : List Item → ℕ → ℕ → ℕ → ℕ
row_from items first x y = line_cell (text_of (slice_get items (first + y))) 0 x

-- those from the first one that is seen on
abbrev pub shown : Listbox → ℕ → ℕ → List (List ℕ)
shown l width height = rows (row_from l.items (top l)) width height
