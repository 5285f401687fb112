-- A widget with a caption: what a label, a button or a checkbutton answers, asks for and shows, by its class.
use Rattle.std.specs.Prelude.{ℕ, Bool, true, false, if◌then◌else◌, List, Option, Some, None, option_map}
use Rattle.tks_text.specs.declared.class.Class.{Class}
use Rattle.tks_text.specs.declared.class.Class.TheVariants as class
use Rattle.tks_opt.specs.Calls as calls
use Rattle.tks_opt.specs.Calls.{Called}
use Rattle.tks_opt.specs.Options.{Options}
use Rattle.tks_button.specs.Button as button
use Rattle.tks_button.specs.Checkbutton as checkbutton
use Rattle.tks_button.specs.Label as label
use Rattle.tks_button.specs.declared.caption.Assignment.{Assignment}

-- the classes that have a caption
abbrev pub has_caption : Class → Bool
has_caption class.Label = true
has_caption class.Button = true
has_caption class.Checkbutton = true
has_caption c = false

-- the widget that has these options, where their class has a caption
abbrev pub restored : Options → Option Options
restored t = if has_caption t.class then Some t else None

-- ---- commands

-- the words of a whole command, the widget's path first: the answer, and the options that are left
abbrev pub called_as : Class → Options → List (List ℕ) → Called
called_as class.Button t words = button.called t words
called_as class.Checkbutton t words = checkbutton.called t words
called_as c t words = calls.called t words

abbrev pub called : Options → List (List ℕ) → Called
called t words = called_as t.class t words

-- ---- a checkbutton's variable

abbrev pub variable_as : Class → Options → Option (List ℕ)
variable_as class.Checkbutton t = Some (checkbutton.variable_of t)
variable_as c t = None

-- its name
abbrev pub variable_of : Options → Option (List ℕ)
variable_of t = variable_as t.class t

abbrev pub is_on_as : Class → Options → Option (List ℕ) → Bool
is_on_as class.Checkbutton t value = checkbutton.is_on t value
is_on_as c t value = false

-- whether the widget is on, by the value of the variable, if it has one
abbrev pub is_on : Options → Option (List ℕ) → Bool
is_on t value = is_on_as t.class t value

-- what the variable is given for being on, or off
abbrev pub assignment : Options → Bool → Assignment
assignment t on = record { variable = checkbutton.variable_of t; value = checkbutton.value_when t on }

abbrev pub assigned_as : Class → Options → List (List ℕ) → Option (List ℕ) → Option Assignment
assigned_as class.Checkbutton t words value = option_map (assignment t) (checkbutton.turned t words (is_on t value))
assigned_as c t words value = None

-- what the words of a command give it, by its value before
abbrev pub assigned : Options → List (List ℕ) → Option (List ℕ) → Option Assignment
assigned t words value = assigned_as t.class t words value

abbrev pub first_assigned_as : Class → Options → Option Assignment
first_assigned_as class.Checkbutton t = Some (assignment t false)
first_assigned_as c t = None

-- what a widget that is made gives it, where it is missing
abbrev pub first_assigned : Options → Option Assignment
first_assigned t = first_assigned_as t.class t

-- ---- what is seen

abbrev pub requested_width_as : Class → Options → ℕ
requested_width_as class.Checkbutton t = checkbutton.requested_width t
requested_width_as c t = label.requested_width t

abbrev pub requested_width : Options → ℕ
requested_width t = requested_width_as t.class t

abbrev pub requested_height : Options → ℕ
requested_height t = label.requested_height t

abbrev pub shown_as : Class → Options → ℕ → ℕ → Bool → List (List ℕ)
shown_as class.Checkbutton t width height on = checkbutton.shown t width height on
shown_as c t width height on = label.shown t width height

-- the rows of its area, each cell by its column and its row; a checkbutton's by whether it is on
abbrev pub shown : Options → ℕ → ℕ → Bool → List (List ℕ)
shown t width height on = shown_as t.class t width height on
