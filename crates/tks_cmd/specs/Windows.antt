-- Making and destroying windows (frame(n), label(n), button(n), checkbutton(n), entry(n), listbox(n), text(n), destroy(n);
-- which errors there are, their order and the limits are this project's own).
use Rattle.std.specs.Prelude.{ℕ, Bool, not, ◌&&◌, ◌==◌, ◌%◌, nat_lt, if◌then◌else◌, codes, List, [], ◌∷◌, length, Option, Some, None, Result, Ok, Err}
use Rattle.std.specs.List.{list_all}
use Rattle.tks_text.specs.Text.{same_text}
use Rattle.tks_text.specs.declared.class.Class.TheVariants as class
use Rattle.tks_text.specs.declared.limits.Limits.{Limits}
use Rattle.tks_tcl.specs.Cause.{Cause, OverLimit, after, wrong_words}
use Rattle.tks_vars.specs.Variables.{Variables}
use Rattle.tks_opt.specs.Options.{first_options}
use Rattle.tks_entry.specs.Entry.{first_entry}
use Rattle.tks_listbox.specs.Listbox.{first_listbox}
use Rattle.tks_lines.specs.Lines.{first_lines}
use Rattle.tks_tree.specs.Path.{root_path}
use Rattle.tks_tree.specs.Windows.{of_path, on_window, free_path}
use Rattle.tks_limits.specs.Within.{widget_fits}
use Rattle.tks_state.specs.World.{World, with_window, without}
use Rattle.tks_state.specs.declared.widget.Widget.{Widget}
use Rattle.tks_state.specs.declared.widget.Widget.TheVariants as widget
use Rattle.tks_eval.specs.declared.host.Plan.TheVariants as plan
use Rattle.tks_cmd.specs.Changes.{Changed, Outcome, outcome, silent, not_on_root, creation}
use Rattle.tks_cmd.specs.Links.{Linked, first_value}
use Rattle.tks_cmd.specs.Widgets.{configured}
use Rattle.tks_cmd.specs.declared.windows.WindowKind.{WindowKind}
use Rattle.tks_cmd.specs.declared.windows.WindowKind.TheVariants as kind

-- options that each have a value (options(n))
abbrev pub are_paired : List (List ℕ) → Bool
are_paired options = length options % 2 == 0

-- ---- frame, label, button, checkbutton, entry, listbox, text: path ?option value ..?

-- the kind of window that the command of a name makes
abbrev pub kind_named : List ℕ → Option WindowKind
kind_named name =
    if same_text name (codes "frame") then Some kind.Frame
    else (if same_text name (codes "label") then Some kind.Label
    else (if same_text name (codes "button") then Some kind.Button
    else (if same_text name (codes "checkbutton") then Some kind.Checkbutton
    else (if same_text name (codes "entry") then Some kind.Entry
    else (if same_text name (codes "listbox") then Some kind.Listbox
    else (if same_text name (codes "text") then Some kind.Text
    else None))))))

-- a window of a kind as it is at first
abbrev pub first_widget : WindowKind → List ℕ → Widget
first_widget kind.Frame path = widget.Frame (first_options class.Frame path)
first_widget kind.Label path = widget.Caption (first_options class.Label path)
first_widget kind.Button path = widget.Caption (first_options class.Button path)
first_widget kind.Checkbutton path = widget.Caption (first_options class.Checkbutton path)
first_widget kind.Entry path = widget.Entry (first_entry path)
first_widget kind.Listbox path = widget.Listbox (first_listbox path)
first_widget kind.Text path = widget.Text (first_lines path)

-- the world with a window more
abbrev pub added : World → List ℕ → Widget → Result World Cause
added w path v = after (creation (with_window w path v)) (λ x. Ok x.1)

module _ (limits : Limits) where
  -- the same with these options, and the globals beside it
  unfoldable pub new_widget : WindowKind → List ℕ → List (List ℕ) → Variables → Result Linked Cause
  new_widget kind path options variables = after (configured limits options (first_widget kind path, variables)) (first_value limits)

  -- a window more passes no limit, and neither do the values that its options have at first
  abbrev pub room : World → Widget → Result (Unit {0}) Cause
  room w v = if nat_lt (length w.tree.windows) limits.items && widget_fits limits v then Ok tt else Err OverLimit

  -- a window more under a path, where it passes none
  unfoldable pub placed : World → List ℕ → Widget → Result World Cause
  placed w path v = after (room w v) (λ _. added w path v)

  -- a window made under a path: the path is looked at first, then the options, then the limit; the answer is the path
  abbrev pub made : WindowKind → List ℕ → List (List ℕ) → World → Variables → Result Outcome Cause
  made kind path options w variables =
      after (creation (free_path w.tree.windows path)) (λ _.
      after (new_widget kind path options variables) (λ x.
      after (placed w path x.0) (λ u. Ok (outcome (plan.Answer 0 path) u x.1))))

  -- the command with the words behind its name
  abbrev pub make_does : WindowKind → List ℕ → List (List ℕ) → World → Variables → Result Outcome Cause
  make_does kind command [] w variables = wrong_words command
  make_does kind command (path ∷ options) w variables = if are_paired options then made kind path options w variables else wrong_words command

-- ---- destroy path ..

-- whether a text is not the path of `.`
abbrev pub is_other : List ℕ → Bool
is_other path = not (same_text path root_path)

-- a world without the window of a path, and without those in it; a path that no window has is passed over
abbrev pub without_path : World → List ℕ → World
without_path w path = on_window (of_path w.tree.windows path) w (λ v. without w v.number)

-- a world without the windows of these paths, taken out one after the other
abbrev pub without_all : World → List (List ℕ) → World
without_all w [] = w
without_all w (path ∷ paths) = without_all (without_path w path) paths

-- the command with the words behind its name: where `.` is among them, nothing is destroyed
abbrev pub destroy_does : List ℕ → List (List ℕ) → World → Result Changed Cause
destroy_does command [] w = wrong_words command
destroy_does command (path ∷ paths) w = if list_all is_other (path ∷ paths) then silent (without_all w (path ∷ paths)) else not_on_root
