-- Places in a text (text(n), "INDICES"). A place stands before so many of the text's characters. Behind them all is a last
-- newline, which isn't among the characters, and behind that the end.
use Rattle.std.specs.Prelude.{ℕ, zero, suc, ◌+◌, ◌-◌, ◌==◌, min, Bool, not, if◌then◌else◌, List, [], ◌∷◌, ◌++◌, length, take, drop, Option, Some, None}
use Rattle.std.specs.List.{prefix_len, suffix_len, count_by}
use Rattle.tks_lines.specs.declared.modifier.Step.{Step}
use Rattle.tks_lines.specs.declared.modifier.Modifier.{Modifier}
use Rattle.tks_lines.specs.declared.modifier.Modifier.TheVariants as modifier

abbrev pub is_newline : ℕ → Bool
is_newline c = c == 10

-- a character that ends no line
abbrev pub is_inner : ℕ → Bool
is_inner c = not (is_newline c)

-- the characters and the last newline
abbrev pub with_newline : List ℕ → List ℕ
with_newline text = text ++ 10 ∷ []

-- the place behind the last newline
abbrev pub end_place : List ℕ → ℕ
end_place text = length text + 1

-- ---- lines and columns

-- how many lines end before a place
abbrev pub lines_before : List ℕ → ℕ → ℕ
lines_before text place = count_by is_newline (take place (with_newline text))

-- how many characters stand before a place on its line
abbrev pub column_of : List ℕ → ℕ → ℕ
column_of text place = suffix_len is_inner (take place (with_newline text))

-- the place at which its line begins
abbrev pub line_start : List ℕ → ℕ → ℕ
line_start text place = place - column_of text place

-- the place of the newline that ends its line; the end has none
abbrev pub line_end : List ℕ → ℕ → ℕ
line_end text place = place + prefix_len is_inner (drop place text)

-- a column of a line of so many characters, or its end: where there are fewer, the end
abbrev pub within_line : Option ℕ → ℕ → ℕ
within_line None len = len
within_line (Some column) len = min column len

-- the place of a column of the line that comes behind so many others; behind the last line, the end
abbrev pub place_at : List ℕ → ℕ → Option ℕ → ℕ
place_at [] zero column = within_line column 0
place_at (c ∷ text) zero column = within_line column (prefix_len is_inner (c ∷ text))
place_at [] (suc lines) column = 1
place_at (c ∷ text) (suc lines) column = suc (place_at text (if is_newline c then lines else suc lines) column)

-- the same, where lines are counted from 1; a line below that is the first place (this project's own rule)
abbrev pub place_of_line : List ℕ → ℕ → Option ℕ → ℕ
place_of_line text line column = if line == 0 then 0 else place_at text (line - 1) column

-- ---- modifiers

-- so far on, or back
abbrev pub along : Step → ℕ → ℕ
along s n = if s.back then n - s.count else n + s.count

-- the place that a modifier makes of another. Characters are cut to the ends; lines keep the column, where a line below
-- the first is the first one, and one past the last gives the end (this project's own rule)
abbrev pub changed : List ℕ → ℕ → Modifier → ℕ
changed text place (modifier.Chars s) = min (along s place) (end_place text)
changed text place (modifier.Lines s) = place_at text (along s (lines_before text place)) (Some (column_of text place))
changed text place modifier.LineStart = line_start text place
changed text place modifier.LineEnd = line_end text place
