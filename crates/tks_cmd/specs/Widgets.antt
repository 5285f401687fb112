-- A window's own command (frame(n), label(n), button(n), checkbutton(n), entry(n), listbox(n), text(n), "WIDGET COMMAND"):
-- its path, a subcommand and words. That each pair of `configure` is a change of its own is this project's own rule.
use Rattle.std.specs.Prelude.{ℕ, Bool, false, if◌then◌else◌, codes, List, [], ◌∷◌, Option, Result, Ok}
use Rattle.tks_text.specs.Text.{same_text}
use Rattle.tks_text.specs.declared.limits.Limits.{Limits}
use Rattle.tks_vars.specs.Variables.{Variables}
use Rattle.tks_tcl.specs.Cause.{Cause, after, value_or_fault, wrong_words}
use Rattle.tks_opt.specs.Calls.{are_pairs}
use Rattle.tks_opt.specs.declared.said.Said.{Said}
use Rattle.tks_opt.specs.declared.said.Said.TheVariants.{Text}
use Rattle.tks_button.specs.declared.caption.Assignment.{Assignment}
use Rattle.tks_state.specs.Widget as widgets
use Rattle.tks_state.specs.Links.{seen, assigned}
use Rattle.tks_state.specs.Windows.{kept_of, on_kept}
use Rattle.tks_state.specs.World.{World, with_widget}
use Rattle.tks_state.specs.declared.widget.Widget.{Widget}
use Rattle.tks_cmd.specs.Changes.{Outcome, outcome, plan_of, beside, silent}
use Rattle.tks_cmd.specs.Links.{Linked, settled, assigned_to}

-- does a pair of an option and its value set the link?
abbrev pub sets_link : List (List ℕ) → Bool
sets_link [] = false
sets_link (name ∷ words) = same_text name (codes "-textvariable")

-- are the words of a whole command those of `configure`?
abbrev pub is_configure : List (List ℕ) → Bool
is_configure (path ∷ name ∷ words) = same_text name (codes "configure")
is_configure words = false

module _ (limits : Limits) where
  -- ---- options

  -- a pair of an option and its value
  abbrev pub configured_pair : List (List ℕ) → Linked → Result Linked Cause
  configured_pair pair x = after (value_or_fault (widgets.configured (seen x.1 x.0) pair)) (λ next. settled limits (sets_link pair) x.0 next x.1)

  -- options and values in turn
  unfoldable pub configured : List (List ℕ) → Linked → Result Linked Cause
  configured [] x = Ok x
  configured (name ∷ []) x = Ok x
  configured (name ∷ value ∷ pairs) x = after (configured_pair (name ∷ value ∷ []) x) (configured pairs)

  -- ---- commands

  -- the words of a command, told to the widget as it is seen
  unfoldable pub told_words : List (List ℕ) → Linked → Result (Said × Linked) Cause
  told_words words x = after (value_or_fault (widgets.called (seen x.1 x.0) words)) (λ y. after (settled limits false x.0 y.1 x.1) (λ z. Ok (y.0, z)))

  -- the same behind what a checkbutton's variable is set to
  abbrev pub assigned_does : List (List ℕ) → Widget → Option Assignment → Variables → Result (Said × Linked) Cause
  assigned_does words w first variables = after (assigned_to limits first variables) (λ v. told_words words (w, v))

  -- words other than those of `configure`: a checkbutton's variable is set first
  unfoldable pub action_does : List (List ℕ) → Linked → Result (Said × Linked) Cause
  action_does words x = assigned_does words x.0 (assigned x.1 x.0 words) x.1

  abbrev pub configure_does : List ℕ → List (List ℕ) → Linked → Result (Said × Linked) Cause
  configure_does path pairs x = if are_pairs pairs then after (configured pairs x) (λ y. Ok (Text [], y)) else wrong_words path

  abbrev pub named_does : List ℕ → List ℕ → List (List ℕ) → Linked → Result (Said × Linked) Cause
  named_does path name words x = if same_text name (codes "configure") then configure_does path words x else action_does (path ∷ name ∷ words) x

  -- the words of a whole command, the window's path first
  abbrev pub called : List (List ℕ) → Linked → Result (Said × Linked) Cause
  called (path ∷ name ∷ words) x = named_does path name words x
  called words x = action_does words x

-- the words of a whole command, the path of the window of a number first; where none has it, nothing is answered
abbrev pub window_does : Limits → ℕ → List (List ℕ) → World → Variables → Result Outcome Cause
window_does limits number words w variables =
    on_kept (kept_of w.kept number) (beside variables (silent w))
    (λ k. after (called limits words (k.widget, variables)) (λ x. Ok (outcome (plan_of x.0) (with_widget w number x.1.0) x.1.1)))
