-- What a user of entries would doubt (entry(n), "DESCRIPTION", "WIDGET COMMAND"), said of their changes and cells.
use Rattle.std.specs.Prelude.{◌≡◌, ℕ, ◌+◌, ◌-◌, List, length, Option, Some, option_and_then, slice_get}
use Rattle.tks_opt.specs.Cells.{character}
use Rattle.tks_entry.specs.Entry.{Entry, cursor_place, inserted, deleted}
use Rattle.tks_entry.specs.Shown.{masked, first_seen, shown}

-- characters came in at a place and were taken out again
abbrev pub in_and_out : ℕ → List ℕ → Entry → Entry
in_and_out place more e = deleted place (place + length more) (inserted place more e)

-- the same text, and the cursor where it stood
abbrev pub StandsAs : Entry → Entry → Type 0
StandsAs before now = (now.text ≡ before.text) × (cursor_place now ≡ cursor_place before)

-- the column in which the cursor stands
abbrev pub cursor_column : Entry → ℕ
cursor_column e = cursor_place e - first_seen e

-- a cell of an area, by its column and its row
abbrev pub cell_in : List (List ℕ) → ℕ → ℕ → Option ℕ
cell_in cells x y = option_and_then (λ line. slice_get line x) (slice_get cells y)

-- the cursor's column has what stands for the character behind it, or a space at the end
abbrev pub ShowsCursor : Entry → ℕ → ℕ → Type 0
ShowsCursor e width height = cell_in (shown e width height) (cursor_column e) 0 ≡ Some (character (slice_get (masked e) (cursor_place e)))
