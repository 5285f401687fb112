-- A text widget that is made again from what it had.
use Rattle.std.specs.Prelude.{ℕ, ◌==◌, ◌&&◌, nat_le, not, Bool, true, false, if◌then◌else◌, List, [], ◌∷◌, length, map, Option, Some, None}
use Rattle.std.specs.List.{list_all}
use Rattle.tks_text.specs.Text.{same_text}
use Rattle.tks_text.specs.declared.class.Class.{Class}
use Rattle.tks_text.specs.declared.class.Class.TheVariants as class
use Rattle.tks_opt.specs.Options.{Options}
use Rattle.tks_lines.specs.Lines.{Lines, is_listed, cursor_name}
use Rattle.tks_lines.specs.declared.parts.Tag.{Tag}
use Rattle.tks_lines.specs.declared.parts.Mark.{Mark}

abbrev pub is_text : Class → Bool
is_text class.Text = true
is_text c = false

-- whether no two names are the same
abbrev pub differ : List (List ℕ) → Bool
differ [] = true
differ (name ∷ names) = not (is_listed name names) && differ names

-- whether the first is the mark at which keys insert
abbrev pub begins_with_cursor : List Mark → Bool
begins_with_cursor [] = false
begins_with_cursor (m ∷ marks) = same_text m.name cursor_name

-- whether tags are those of a text of so many characters
abbrev pub are_tags : ℕ → List Tag → Bool
are_tags len tags = list_all (λ g. length g.on == len) tags && differ (map (λ g. g.name) tags)

-- and marks
abbrev pub are_marks : ℕ → List Mark → Bool
are_marks len marks = list_all (λ m. nat_le m.place len) marks && (differ (map (λ m. m.name) marks) && begins_with_cursor marks)

-- the text widget that has these, where they are a text widget's
abbrev pub restored : Options → List ℕ → List Tag → List Mark → Option Lines
restored options text tags marks =
    if is_text options.class && (are_tags (length text) tags && are_marks (length text) marks)
    then Some (record { options = options; text = text; tags = tags; marks = marks }) else None
