-- What is to be said of widgets that are linked to globals (label(n), entry(n), `-textvariable`), and of what a command
-- doesn't name.
use Rattle.std.specs.Prelude.{◌≡◌, ◌==◌, not, ℕ, Bool, true, false, is_some, List}
use Rattle.std.specs.List.{filter}
use Rattle.tks_opt.specs.Options.{value_in}
use Rattle.tks_opt.specs.declared.name.OptionName.TheVariants as name
use Rattle.tks_vars.specs.Variables.{Variables}
use Rattle.tks_state.specs.Links.{text_of, seen, global_if, or_empty}
use Rattle.tks_state.specs.declared.kept.Kept.{Kept}
use Rattle.tks_state.specs.declared.widget.Widget.{Widget}
use Rattle.tks_state.specs.declared.widget.Widget.TheVariants as widget

-- whether a widget has a text that may be a global's
abbrev pub has_text : Widget → Bool
has_text (widget.Frame t) = false
has_text (widget.Caption t) = is_some (value_in t.values name.Text)
has_text (widget.Entry e) = true
has_text (widget.Listbox l) = false
has_text (widget.Text t) = false

-- a widget's text, as it is seen, is the value of a global, empty where that can't be read
abbrev pub Shows : Variables → List ℕ → Widget → Type 0
Shows variables global w = text_of (seen variables w) ≡ or_empty (global_if variables global)

-- what is kept of other windows, in their order (bindtags(n))
abbrev pub other_windows : ℕ → List Kept → List Kept
other_windows number kept = filter (λ k. not (k.window == number)) kept
