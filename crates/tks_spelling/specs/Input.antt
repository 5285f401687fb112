-- Inputs as bytes (this project's own format): a tag, and what the input holds.
use Rattle.std.specs.Prelude.{ℕ, ◌<◌, ◌^◌, Bool, ◌&&◌, ◌==◌, List, [], length, nat_le}
use Rattle.std.specs.Int.{w16, w64}
use Rattle.tks_text.specs.Text.{IsText}
use Rattle.tks_input.specs.declared.input.Input.{Input}
use Rattle.tks_input.specs.declared.input.Input.TheVariants.{Script, KeyPress, KeyRelease, Press, Release, Clock, Turn, Rules}
use Rattle.tks_spelling.specs.Spelling.{Read, Spelling, byte, number, text, such_that, field, through, which, no_bytes, none}

-- the text that an input holds; where it holds none, the empty one
abbrev pub text_of : Input → List ℕ
text_of (Script script) = script
text_of (KeyPress key) = key
text_of (KeyRelease key) = key
text_of input = []

-- the button; where it has none, 0; and so on
abbrev pub button_of : Input → ℕ
button_of (Press button x y) = button
button_of (Release button x y) = button
button_of input = 0

-- the cell's column
abbrev pub x_of : Input → ℕ
x_of (Press button x y) = x
x_of (Release button x y) = x
x_of input = 0

-- the cell's row
abbrev pub y_of : Input → ℕ
y_of (Press button x y) = y
y_of (Release button x y) = y
y_of input = 0

-- the time
abbrev pub time_of : Input → ℕ
time_of (Clock time) = time
time_of input = 0

-- the number of the rules
abbrev pub rules_of : Input → ℕ
rules_of (Rules number) = number
rules_of input = 0

-- the tag
abbrev pub tag_of : Input → ℕ
tag_of (Script script) = 1
tag_of (KeyPress key) = 2
tag_of (KeyRelease key) = 3
tag_of (Press button x y) = 4
tag_of (Release button x y) = 5
tag_of (Clock time) = 6
tag_of Turn = 7
tag_of (Rules number) = 8

-- a text
abbrev pub of_text : (List ℕ → Input) → Spelling Input
of_text make = through text_of make text

-- a button and a cell
abbrev pub of_button : (ℕ → ℕ → ℕ → Input) → Spelling Input
of_button make =
    field button_of byte (λ button.
    field x_of (number w16) (λ x.
    through y_of (λ y. make button x y) (number w16)))

-- a time
abbrev pub of_time : (ℕ → Input) → Spelling Input
of_time make = through time_of make (number w64)

-- the number of rules
abbrev pub of_rules : Spelling Input
of_rules = through rules_of (λ number. Rules number) byte

-- what stands behind this tag
abbrev pub behind_tag : ℕ → Spelling Input
behind_tag tag =
    which (tag == 1) (of_text (λ script. Script script))
    (which (tag == 2) (of_text (λ key. KeyPress key))
    (which (tag == 3) (of_text (λ key. KeyRelease key))
    (which (tag == 4) (of_button (λ button x y. Press button x y))
    (which (tag == 5) (of_button (λ button x y. Release button x y))
    (which (tag == 6) (of_time (λ time. Clock time))
    (which (tag == 7) (no_bytes Turn)
    (which (tag == 8) of_rules none)))))))

-- the tags that there are
abbrev pub is_tag : ℕ → Bool
is_tag tag = nat_le 1 tag && nat_le tag 8

-- a tag, and what stands behind it
abbrev pub input : Spelling Input
input = field tag_of (such_that is_tag byte) behind_tag

-- the input at the front of bytes, and what stands behind it
unfoldable pub input_at : List ℕ → Read Input
input_at bytes = input.read bytes

-- inputs that have a spelling
abbrev pub IsInput : Input → Type 0
IsInput (Script script) = (length script < 2 ^ 32) × IsText script
IsInput (KeyPress key) = (length key < 2 ^ 32) × IsText key
IsInput (KeyRelease key) = (length key < 2 ^ 32) × IsText key
IsInput (Press button x y) = (button < 2 ^ 8) × (x < 2 ^ 16) × (y < 2 ^ 16)
IsInput (Release button x y) = (button < 2 ^ 8) × (x < 2 ^ 16) × (y < 2 ^ 16)
IsInput (Clock time) = time < 2 ^ 64
IsInput Turn = Unit {0}
IsInput (Rules number) = number < 2 ^ 8
