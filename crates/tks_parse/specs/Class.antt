-- Kinds of characters, and what ends words, commands and scripts (Tcl(n), rules 1 to 3, and 7 to 10).
use Rattle.std.specs.Prelude.{ℕ, Bool, true, false, ◌||◌, ◌&&◌, ◌==◌, nat_le, not, List, [], ◌∷◌}
use Rattle.tks_text.specs.Backslash.{is_blank}
use Rattle.tks_parse.specs.declared.mode.Place.{Place}
use Rattle.tks_parse.specs.declared.mode.Place.TheVariants.{Alone, Brackets}
use Rattle.tks_parse.specs.declared.mode.Mode.{Mode}
use Rattle.tks_parse.specs.declared.mode.Mode.TheVariants.{Bare, Quoted, Index}

-- what separates commands: newline and semicolon
abbrev pub is_separator : ℕ → Bool
is_separator c = (c == 10) || (c == 59)

-- a letter, a digit or an underscore, as in the name of a variable
abbrev pub is_name_char : ℕ → Bool
is_name_char c = (nat_le 48 c && nat_le c 57) || (nat_le 65 c && nat_le c 90) || (nat_le 97 c && nat_le c 122) || (c == 95)

-- what may stand in `${name}`
abbrev pub is_no_close_brace : ℕ → Bool
is_no_close_brace c = not (c == 125)

abbrev pub begins_newline : List ℕ → Bool
begins_newline [] = false
begins_newline (c ∷ u) = c == 10

-- a backslash before a newline: between words it is white space
abbrev pub is_fold : ℕ → List ℕ → Bool
is_fold c u = (c == 92) && begins_newline u

-- the `]` that ends a script in brackets
abbrev pub ends_script : Place → ℕ → Bool
ends_script Alone c = false
ends_script Brackets c = c == 93

-- what ends a bare word
abbrev pub ends_word : Place → ℕ → Bool
ends_word place c = is_blank c || is_separator c || ends_script place c

-- a word may end before this text
abbrev pub ends_word_at : Place → List ℕ → Bool
ends_word_at place [] = true
ends_word_at place (c ∷ u) = ends_word place c || is_fold c u

-- what ends a command
abbrev pub ends_command : Place → ℕ → Bool
ends_command place c = is_separator c || ends_script place c

-- a command may end before this text
abbrev pub ends_command_at : Place → List ℕ → Bool
ends_command_at place [] = true
ends_command_at place (c ∷ u) = ends_command place c

-- the parts of a word, or of an index, end before c and u
abbrev pub ends_parts : Mode → ℕ → List ℕ → Bool
ends_parts (Bare place) c u = ends_word place c || is_fold c u
ends_parts (Quoted syntax) c u = c == 34
ends_parts (Index syntax) c u = c == 41

-- whether a text begins with `{*}` and a word behind it
abbrev pub is_expanded : Place → List ℕ → Bool
is_expanded place (a ∷ b ∷ c ∷ u) = (a == 123) && (b == 42) && (c == 125) && not (ends_word_at place u)
is_expanded place _ = false
