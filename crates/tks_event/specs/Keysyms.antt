-- Keysyms, the names of keys (keysyms(n)). Which ones there are is this project's own choice.
use Rattle.std.specs.Prelude.{ℕ, Bool, false, ◌||◌, ◌&&◌, ◌==◌, nat_le, is_some, List, [], ◌∷◌, Option, Some, None, codes, if◌then◌else◌}
use Rattle.tks_text.specs.Text.{same_text}

-- what a table has under a name
abbrev pub named_in : {X : Type 0} → List (List ℕ × X) → List ℕ → Option X
named_in [] text = None
named_in (row ∷ rows) text = if same_text text row.0 then Some row.1 else named_in rows text

abbrev pub or_else : {X : Type 0} → Option X → Option X → Option X
or_else None other = other
or_else (Some x) other = Some x

-- whether a text is one of some words
abbrev pub is_among : List (List ℕ) → List ℕ → Bool
is_among [] text = false
is_among (word ∷ words) text = same_text text word || is_among words text

-- ---- keys of printing characters

-- a letter or a digit, which is its own keysym
abbrev pub is_alphanumeric : ℕ → Bool
is_alphanumeric c = (nat_le 48 c && nat_le c 57) || (nat_le 65 c && nat_le c 90) || (nat_le 97 c && nat_le c 122)

abbrev pub alphanumeric_of : List ℕ → Option ℕ
alphanumeric_of [] = None
alphanumeric_of (c ∷ []) = if is_alphanumeric c then Some c else None
alphanumeric_of (c ∷ d ∷ t) = None

-- the keysyms of the other printing characters, in the order of the characters, from space to slash
abbrev pub first_signs : List (List ℕ × ℕ)
first_signs =
    (codes "space", 32) ∷ (codes "exclam", 33) ∷ (codes "quotedbl", 34) ∷ (codes "numbersign", 35) ∷ (codes "dollar", 36) ∷ (codes "percent", 37)
    ∷ (codes "ampersand", 38) ∷ (codes "apostrophe", 39) ∷ []

abbrev pub second_signs : List (List ℕ × ℕ)
second_signs =
    (codes "parenleft", 40) ∷ (codes "parenright", 41) ∷ (codes "asterisk", 42) ∷ (codes "plus", 43) ∷ (codes "comma", 44) ∷ (codes "minus", 45)
    ∷ (codes "period", 46) ∷ (codes "slash", 47) ∷ []

-- from colon to backslash
abbrev pub third_signs : List (List ℕ × ℕ)
third_signs =
    (codes "colon", 58) ∷ (codes "semicolon", 59) ∷ (codes "less", 60) ∷ (codes "equal", 61) ∷ (codes "greater", 62) ∷ (codes "question", 63)
    ∷ (codes "at", 64) ∷ (codes "bracketleft", 91) ∷ (codes "backslash", 92) ∷ []

-- from the closing bracket to the tilde
abbrev pub fourth_signs : List (List ℕ × ℕ)
fourth_signs =
    (codes "bracketright", 93) ∷ (codes "asciicircum", 94) ∷ (codes "underscore", 95) ∷ (codes "grave", 96) ∷ (codes "braceleft", 123) ∷ (codes "bar", 124)
    ∷ (codes "braceright", 125) ∷ (codes "asciitilde", 126) ∷ []

-- the character of a keysym, if it has a printing one
abbrev pub keysym_char : List ℕ → Option ℕ
keysym_char text =
    or_else (alphanumeric_of text)
    (or_else (named_in first_signs text) (or_else (named_in second_signs text) (or_else (named_in third_signs text) (named_in fourth_signs text))))

-- ---- other keys

-- keys that edit and move
abbrev pub editing_keys : List (List ℕ)
editing_keys =
    codes "BackSpace" ∷ codes "Tab" ∷ codes "Return" ∷ codes "Escape" ∷ codes "Delete" ∷ codes "Home" ∷ codes "Left" ∷ codes "Up" ∷ []

abbrev pub moving_keys : List (List ℕ)
moving_keys = codes "Right" ∷ codes "Down" ∷ codes "Prior" ∷ codes "Next" ∷ codes "End" ∷ codes "Insert" ∷ []

abbrev pub function_keys : List (List ℕ)
function_keys = codes "F1" ∷ codes "F2" ∷ codes "F3" ∷ codes "F4" ∷ codes "F5" ∷ codes "F6" ∷ []

abbrev pub further_function_keys : List (List ℕ)
further_function_keys = codes "F7" ∷ codes "F8" ∷ codes "F9" ∷ codes "F10" ∷ codes "F11" ∷ codes "F12" ∷ []

abbrev pub modifier_keys : List (List ℕ)
modifier_keys =
    codes "Shift_L" ∷ codes "Shift_R" ∷ codes "Control_L" ∷ codes "Control_R" ∷ codes "Alt_L" ∷ codes "Alt_R" ∷ codes "Caps_Lock" ∷ []

-- whether a text is the keysym of a modifier key
abbrev pub is_modifier_key : List ℕ → Bool
is_modifier_key text = is_among modifier_keys text

abbrev pub is_function_key : List ℕ → Bool
is_function_key text = is_among function_keys text || is_among further_function_keys text

-- whether a text is a keysym
unfoldable pub is_keysym : List ℕ → Bool
is_keysym text =
    is_some (keysym_char text) || (is_among editing_keys text || (is_among moving_keys text || (is_function_key text || is_modifier_key text)))

-- ---- the keysym of a character

abbrev pub name_in : List (List ℕ × ℕ) → ℕ → Option (List ℕ)
name_in [] c = None
name_in (row ∷ rows) c = if c == row.1 then Some row.0 else name_in rows c

-- of a printing character that is no letter and no digit
abbrev pub sign_name : ℕ → Option (List ℕ)
sign_name c = or_else (name_in first_signs c) (or_else (name_in second_signs c) (or_else (name_in third_signs c) (name_in fourth_signs c)))

-- the keysym whose character this is
unfoldable pub keysym_of : ℕ → Option (List ℕ)
keysym_of c = if is_alphanumeric c then Some (c ∷ []) else sign_name c
