-- Where the lines of a text end: the places of its newlines, and what becomes of them.
use Rattle.std.specs.Prelude.{ℕ, zero, suc, ◌+◌, ◌-◌, nat_lt, if◌then◌else◌, List, [], ◌∷◌, Option, Some, None, slice_get}
use Rattle.std.specs.List.{prefix_len}
use Rattle.tks_lines.specs.Places.{is_newline}

-- the places of the newlines of a text that begins at a place
abbrev pub breaks_from : ℕ → List ℕ → List ℕ
breaks_from place [] = []
breaks_from place (c ∷ text) = if is_newline c then place ∷ breaks_from (suc place) text else breaks_from (suc place) text

abbrev pub breaks_of : List ℕ → List ℕ
breaks_of text = breaks_from 0 text

-- how many of rising places are below another
abbrev pub below : ℕ → List ℕ → ℕ
below place breaks = prefix_len (λ b. nat_lt b place) breaks

-- ---- lines

abbrev pub behind_break : ℕ → Option ℕ → ℕ
behind_break len None = len + 1
behind_break len (Some b) = b + 1

abbrev pub break_or_end : ℕ → Option ℕ → ℕ
break_or_end len None = len
break_or_end len (Some b) = b

-- where the line behind so many others begins, in a text of so many characters; behind the last line, the end
abbrev pub line_begin : ℕ → List ℕ → ℕ → ℕ
line_begin len breaks zero = 0
line_begin len breaks (suc lines) = behind_break len (slice_get breaks lines)

-- where it ends
abbrev pub line_break : ℕ → List ℕ → ℕ → ℕ
line_break len breaks lines = break_or_end len (slice_get breaks lines)
