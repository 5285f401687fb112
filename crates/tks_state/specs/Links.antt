-- Widgets and the globals that they show (label(n), entry(n), button(n), `-textvariable`; checkbutton(n), `-variable`).
use Rattle.std.specs.Prelude.{◌≡◌, ℕ, Bool, false, List, [], ◌∷◌, Option, Some, None, option_and_then, Result, Ok, Err}
use Rattle.tks_text.specs.declared.fault.ScriptFault.{ScriptFault}
use Rattle.tks_opt.specs.Options.{Options, value_in, replaced}
use Rattle.tks_opt.specs.declared.name.OptionName.TheVariants as name
use Rattle.tks_vars.specs.Variables.{Variables, global_value_of}
use Rattle.tks_button.specs.Sizes as sizes
use Rattle.tks_button.specs.Caption as caption
use Rattle.tks_button.specs.declared.caption.Assignment.{Assignment}
use Rattle.tks_pack.specs.declared.area.Extent.{Extent}
use Rattle.tks_state.specs.Widget as widgets
use Rattle.tks_state.specs.Widget.{options_of}
use Rattle.tks_state.specs.declared.widget.Widget.{Widget}
use Rattle.tks_state.specs.declared.widget.Widget.TheVariants as widget

-- ---- the text

-- a name that isn't empty
abbrev pub some_name : List ℕ → Option (List ℕ)
some_name [] = None
some_name (c ∷ rest) = Some (c ∷ rest)

-- the global that the widget's text is linked to, if any
unfoldable pub link_of : Widget → Option (List ℕ)
link_of w = option_and_then some_name (value_in (options_of w).values name.TextVariable)

-- the text of a widget that may show a global; the others have none
unfoldable pub text_of : Widget → List ℕ
text_of (widget.Frame t) = []
text_of (widget.Caption t) = sizes.text_of t
text_of (widget.Entry e) = e.text
text_of (widget.Listbox l) = []
text_of (widget.Text t) = []

-- the widget with another text, where it may show a global
unfoldable pub with_text : List ℕ → Widget → Widget
with_text text (widget.Frame t) = widget.Frame t
with_text text (widget.Caption t) = widget.Caption (record t { values = replaced t.values name.Text text })
with_text text (widget.Entry e) = widget.Entry (record e { text = text })
with_text text (widget.Listbox l) = widget.Listbox l
with_text text (widget.Text t) = widget.Text t

abbrev pub value_if : Result (List ℕ) ScriptFault → Option (List ℕ)
value_if (Ok value) = Some value
value_if (Err fault) = None

-- the value of a global, if it can be read
abbrev pub global_if : Variables → List ℕ → Option (List ℕ)
global_if variables name = value_if (global_value_of variables name)

abbrev pub or_empty : Option (List ℕ) → List ℕ
or_empty None = []
or_empty (Some text) = text

-- a widget that is linked to a global has its value as its text; one that is missing, or an array, counts as empty
abbrev pub linked : Variables → Option (List ℕ) → Widget → Widget
linked variables None w = w
linked variables (Some name) w = with_text (or_empty (global_if variables name)) w

-- the widget as it is seen
unfoldable pub seen : Variables → Widget → Widget
seen variables w = linked variables (link_of w) w

-- ---- a checkbutton's variable

-- its value, if it can be read
abbrev pub switch_value : Variables → Options → Option (List ℕ)
switch_value variables t = option_and_then (global_if variables) (caption.variable_of t)

-- whether a checkbutton is on
unfoldable pub is_on : Variables → Widget → Bool
is_on variables (widget.Caption t) = caption.is_on t (switch_value variables t)
is_on variables w = false

-- what the words of a command give the variable of a checkbutton
unfoldable pub assigned : Variables → Widget → List (List ℕ) → Option Assignment
assigned variables (widget.Caption t) words = caption.assigned t words (switch_value variables t)
assigned variables w words = None

-- what a checkbutton that is made gives its variable, where that is missing
unfoldable pub first_assigned : Widget → Option Assignment
first_assigned (widget.Caption t) = caption.first_assigned t
first_assigned w = None

-- ---- what is seen

-- how large the widget asks to be
unfoldable pub requested : Variables → Widget → Extent
requested variables w = widgets.requested (seen variables w)

-- two widgets ask for the same room, whatever the variables are
abbrev pub AsksAs : Widget → Widget → Type 0
AsksAs v w = (variables : Variables) → requested variables v ≡ requested variables w

-- the rows of characters that it shows
unfoldable pub shown : Variables → Widget → ℕ → ℕ → List (List ℕ)
shown variables w width height = widgets.shown (seen variables w) (is_on variables w) width height
