-- What a checkbutton answers, asks for and shows, and what its variable says (checkbutton(n); that the mark is
-- text is this project's own rule).
use Rattle.std.specs.Prelude.{ℕ, ◌+◌, Bool, true, false, not, if◌then◌else◌, List, [], ◌∷◌, ◌++◌, map, Option, Some, None, Ok, codes}
use Rattle.tks_text.specs.Text.{same_text}
use Rattle.tks_opt.specs.Calls as calls
use Rattle.tks_opt.specs.Calls.{Called}
use Rattle.tks_opt.specs.Cells.{rows}
use Rattle.tks_opt.specs.Options.{Options}
use Rattle.tks_opt.specs.declared.name.OptionName.TheVariants as name
use Rattle.tks_opt.specs.declared.said.Said.TheVariants.{Text}
use Rattle.tks_button.specs.Action.{action_of, is_disabled, invoked}
use Rattle.tks_button.specs.Block.{lines, block_cell}
use Rattle.tks_button.specs.Label as label
use Rattle.tks_button.specs.Sizes.{said_by, text_of, anchor_of}
use Rattle.tks_button.specs.declared.action.Action.{Action}
use Rattle.tks_button.specs.declared.action.Action.TheVariants as action

-- The variable.

-- its name
abbrev pub variable_of : Options → List ℕ
variable_of t = said_by t name.Variable

-- the value that it has when the checkbutton is on, and when it is off
abbrev pub value_when : Options → Bool → List ℕ
value_when t true = said_by t name.OnValue
value_when t false = said_by t name.OffValue

-- whether the checkbutton is on, by the value of the variable, if it has one
abbrev pub is_on : Options → Option (List ℕ) → Bool
is_on t None = false
is_on t (Some value) = same_text value (value_when t true)

-- Commands.

-- what an action makes of its being on, where it makes something of it
abbrev pub turned_by : Options → Bool → Option Action → Option Bool
turned_by t on None = None
turned_by t on (Some action.Select) = Some true
turned_by t on (Some action.Deselect) = Some false
turned_by t on (Some action.Toggle) = Some (not on)
turned_by t on (Some action.Invoke) = if is_disabled t then None else Some (not on)

-- what the words of a whole command make of it
abbrev pub turned : Options → List (List ℕ) → Bool → Option Bool
turned t words on = turned_by t on (action_of words)

abbrev pub answered : Options → List (List ℕ) → Option Action → Called
answered t words None = calls.called t words
answered t words (Some action.Invoke) = Ok (invoked t, t)
answered t words (Some other) = Ok (Text [], t)

-- the words of a whole command, the window's path first: the answer, and the options that are left
abbrev pub called : Options → List (List ℕ) → Called
called t words = answered t words (action_of words)

-- The block.

-- what stands before the first line
abbrev pub mark : Bool → List ℕ
mark on = if on then codes "[x] " else codes "[ ] "

-- what stands before each other line
abbrev pub indent : List ℕ
indent = codes "    "

-- the lines of a block, with what stands before them
abbrev pub marked : Bool → List (List ℕ) → List (List ℕ)
marked on [] = []
marked on (line ∷ others) = (mark on ++ line) ∷ map (λ other. indent ++ other) others

abbrev pub requested_width : Options → ℕ
requested_width t = 4 + label.requested_width t

abbrev pub requested_height : Options → ℕ
requested_height t = label.requested_height t

-- the rows of its area, each cell by its column and its row
abbrev pub shown : Options → ℕ → ℕ → Bool → List (List ℕ)
shown t width height on = rows (block_cell (marked on (lines (text_of t))) (anchor_of t) width height) width height
