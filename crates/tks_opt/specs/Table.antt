-- The options of the classes (options(n), frame(n), label(n), button(n), checkbutton(n), entry(n),
-- listbox(n), text(n)); which ones, their ranges and defaults are this project's own choice.
use Rattle.std.specs.Prelude.{ℕ, Bool, true, false, ◌||◌, is_some, List, [], ◌∷◌, ◌++◌, ◌-◌, drop, length, not, ◌==◌, Option, Some, None, codes}
use Rattle.std.specs.List.{suffix_len}
use Rattle.tks_text.specs.Text.{same_text}
use Rattle.tks_text.specs.declared.class.Class.{Class}
use Rattle.tks_text.specs.declared.class.Class.TheVariants as class
use Rattle.tks_opt.specs.Values.{named_in, or_else, number_within, anchor_named, state_named}
use Rattle.tks_opt.specs.declared.name.OptionName.{OptionName}
use Rattle.tks_opt.specs.declared.name.OptionName.TheVariants as name
use Rattle.tks_opt.specs.declared.state.State.{State}
use Rattle.tks_opt.specs.declared.state.State.TheVariants as state

-- the names of options of all windows, and the short ones of three
abbrev pub common_names : List (List ℕ × OptionName)
common_names =
    (codes "-background", name.Background) ∷ (codes "-bg", name.Background) ∷ (codes "-foreground", name.Foreground) ∷ (codes "-fg", name.Foreground)
    ∷ (codes "-font", name.Font) ∷ (codes "-relief", name.Relief) ∷ (codes "-borderwidth", name.BorderWidth) ∷ (codes "-bd", name.BorderWidth)
    ∷ (codes "-takefocus", name.TakeFocus) ∷ []

-- those of what a window shows
abbrev pub shown_names : List (List ℕ × OptionName)
shown_names =
    (codes "-text", name.Text) ∷ (codes "-textvariable", name.TextVariable) ∷ (codes "-width", name.Width) ∷ (codes "-height", name.Height)
    ∷ (codes "-anchor", name.Anchor) ∷ (codes "-show", name.Show) ∷ (codes "-wrap", name.Wrap) ∷ []

-- those of what it does
abbrev pub done_names : List (List ℕ × OptionName)
done_names =
    (codes "-command", name.Command) ∷ (codes "-state", name.State) ∷ (codes "-variable", name.Variable) ∷ (codes "-onvalue", name.OnValue)
    ∷ (codes "-offvalue", name.OffValue) ∷ (codes "-selectmode", name.SelectMode) ∷ []

-- the option that a text names
abbrev pub option_named : List ℕ → Option OptionName
option_named text = or_else (named_in common_names text) (or_else (named_in shown_names text) (named_in done_names text))

-- The classes.

abbrev pub common : List OptionName
common = name.Background ∷ name.Foreground ∷ name.Font ∷ name.Relief ∷ name.BorderWidth ∷ name.TakeFocus ∷ []

abbrev pub of_label : List OptionName
of_label = name.Text ∷ name.TextVariable ∷ name.Width ∷ name.Anchor ∷ []

abbrev pub of_button : List OptionName
of_button = of_label ++ name.Command ∷ name.State ∷ []

-- those of a class beside the common ones
abbrev pub further : Class → List OptionName
further class.Root = name.Width ∷ name.Height ∷ []
further class.Frame = name.Width ∷ name.Height ∷ []
further class.Label = of_label
further class.Button = of_button
further class.Checkbutton = of_button ++ name.Variable ∷ name.OnValue ∷ name.OffValue ∷ []
further class.Entry = name.TextVariable ∷ name.Show ∷ name.Width ∷ name.State ∷ []
further class.Listbox = name.Width ∷ name.Height ∷ name.State ∷ name.SelectMode ∷ []
further class.Text = name.Width ∷ name.Height ∷ name.State ∷ name.Wrap ∷ []

-- the options of a class, in the order in which they are kept
abbrev pub options_of : Class → List OptionName
options_of c = common ++ further c

-- Values.

abbrev pub max_size : ℕ
max_size = 10_000

-- the size that is a value of `-width` or `-height`: a text widget has at least one row and one column
abbrev pub least_size : Class → ℕ
least_size class.Root = 0
least_size class.Frame = 0
least_size class.Label = 0
least_size class.Button = 0
least_size class.Checkbutton = 0
least_size class.Entry = 0
least_size class.Listbox = 0
least_size class.Text = 1

-- whether a window of the class may be in a state
abbrev pub has_state : Class → State → Bool
has_state class.Entry state.Active = false
has_state class.Entry s = true
has_state class.Listbox state.Active = false
has_state class.Listbox state.ReadOnly = false
has_state class.Listbox s = true
has_state class.Text state.Active = false
has_state class.Text state.ReadOnly = false
has_state class.Text s = true
has_state c state.ReadOnly = false
has_state c s = true

abbrev pub is_state_of : Class → Option State → Bool
is_state_of c None = false
is_state_of c (Some s) = has_state c s

-- 0 or 1
abbrev pub is_flag : List ℕ → Bool
is_flag text = same_text text (codes "0") || same_text text (codes "1")

abbrev pub is_select_mode : List ℕ → Bool
is_select_mode text = same_text text (codes "browse") || (same_text text (codes "single") || (same_text text (codes "multiple") || same_text text (codes "extended")))

-- whether a text may be the value of an option; those without a rule take any
abbrev pub accepts : Class → OptionName → List ℕ → Bool
accepts c name.TakeFocus text = is_flag text
accepts c name.Width text = is_some (number_within (least_size c) max_size text)
accepts c name.Height text = is_some (number_within (least_size c) max_size text)
accepts c name.Anchor text = is_some (anchor_named text)
accepts c name.State text = is_state_of c (state_named text)
accepts c name.SelectMode text = is_select_mode text
accepts c o text = true

-- Defaults.

-- whether a window of the class takes the focus by itself
abbrev pub takes_focus : Class → List ℕ
takes_focus class.Root = codes "0"
takes_focus class.Frame = codes "0"
takes_focus class.Label = codes "0"
takes_focus class.Button = codes "1"
takes_focus class.Checkbutton = codes "1"
takes_focus class.Entry = codes "1"
takes_focus class.Listbox = codes "1"
takes_focus class.Text = codes "1"

abbrev pub first_width : Class → List ℕ
first_width class.Root = codes "0"
first_width class.Frame = codes "0"
first_width class.Label = codes "0"
first_width class.Button = codes "0"
first_width class.Checkbutton = codes "0"
first_width class.Entry = codes "20"
first_width class.Listbox = codes "20"
first_width class.Text = codes "80"

abbrev pub first_height : Class → List ℕ
first_height class.Root = codes "0"
first_height class.Frame = codes "0"
first_height class.Label = codes "0"
first_height class.Button = codes "0"
first_height class.Checkbutton = codes "0"
first_height class.Entry = codes "0"
first_height class.Listbox = codes "10"
first_height class.Text = codes "24"

-- what stands behind the last dot of a path
abbrev pub last_part : List ℕ → List ℕ
last_part path = drop (length path - suffix_len (λ b. not (b == 46)) path) path

-- the value that an option has at first; that of `-variable` is the last part of the window's path
abbrev pub first_value : Class → List ℕ → OptionName → List ℕ
first_value c path name.TakeFocus = takes_focus c
first_value c path name.Width = first_width c
first_value c path name.Height = first_height c
first_value c path name.Anchor = codes "center"
first_value c path name.State = codes "normal"
first_value c path name.Variable = last_part path
first_value c path name.OnValue = codes "1"
first_value c path name.OffValue = codes "0"
first_value c path name.SelectMode = codes "browse"
first_value c path name.Wrap = codes "char"
first_value c path o = []
