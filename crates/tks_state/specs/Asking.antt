-- What the words of a command come to at a widget: an answer, or a change that is still to be made (this project's own rule).
use Rattle.std.specs.Prelude.{◌≡◌, ℕ, List, [], Result, Ok, Err}
use Rattle.tks_text.specs.declared.fault.ScriptFault.{ScriptFault}
use Rattle.tks_text.specs.declared.fault.Failure.{Failure}
use Rattle.tks_text.specs.declared.fault.Failure.TheVariants as failure
use Rattle.tks_opt.specs.Options.{after}
use Rattle.tks_opt.specs.declared.said.Said.{Said}
use Rattle.tks_opt.specs.declared.said.Said.TheVariants.{Text}
use Rattle.tks_listbox.specs.View as listbox
use Rattle.tks_lines.specs.View as lines
use Rattle.tks_state.specs.Widget.{called}
use Rattle.tks_state.specs.Windows.{Windows, done_at, done}
use Rattle.tks_state.specs.declared.kept.Kept.{Kept}
use Rattle.tks_state.specs.declared.widget.Widget.{Widget}
use Rattle.tks_state.specs.declared.widget.Widget.TheVariants as widget
use Rattle.tks_state.specs.declared.asking.WidgetChange.{WidgetChange}
use Rattle.tks_state.specs.declared.asking.WidgetChange.TheVariants as change
use Rattle.tks_state.specs.declared.asking.Asked.{Asked}
use Rattle.tks_state.specs.declared.asking.Asked.TheVariants as asked

-- what a change makes of a widget, and what is answered; one of another class's changes nothing
abbrev pub changed : WidgetChange → Widget → Result (Said × Widget) ScriptFault
changed (change.Listbox c) (widget.Listbox l) = after (listbox.changed c l) (λ m. Ok (Text [], widget.Listbox m))
changed (change.Text c) (widget.Text t) = after (lines.changed c t) (λ u. Ok (Text [], widget.Text u))
changed (change.Words words) w = called w words.now
changed c w = Ok (Text [], w)

-- the same of what is kept of a window, and of all windows
abbrev pub changed_at : List Kept → ℕ → WidgetChange → Result (Said × List Kept) ScriptFault
changed_at kept number c = done_at kept number (changed c)

abbrev pub changed_in : Windows → ℕ → WidgetChange → Result (Said × Windows) ScriptFault
changed_in x number c = done x number (changed c)

-- words come to the answer, to what the change does, or to the error that is told; want of memory may come anywhere
abbrev pub AsksSo : {X : Type 0} → (WidgetChange → Result (Said × X) ScriptFault) → Result Asked Failure → Result (Said × X) ScriptFault → X → Type 0
AsksSo does (Ok (asked.Said said)) given x = given ≡ Ok (said, x)
AsksSo does (Ok (asked.Changes c)) given x = given ≡ does c
AsksSo does (Err (failure.Script fault)) given x = given ≡ Err fault
AsksSo does (Err failure.NoMemory) given x = Unit {0}
