-- Widgets that are linked to globals (label(n), entry(n), button(n), `-textvariable`; checkbutton(n), `-variable`). That
-- a link is by name, that each pair of `configure` is a change of its own, and which errors there are, are this
-- project's own rules.
use Rattle.std.specs.Prelude.{ℕ, Bool, false, ◌&&◌, ◌||◌, not, if◌then◌else◌, List, Option, Some, None, Result, Ok, Err}
use Rattle.tks_text.specs.Text.{same_text}
use Rattle.tks_text.specs.declared.fault.ScriptFault.{ScriptFault}
use Rattle.tks_text.specs.declared.limits.Limits.{Limits}
use Rattle.tks_vars.specs.Variables.{Variables, global_value_of}
use Rattle.tks_tcl.specs.Cause.{Cause, OverLimit, after}
use Rattle.tks_text.specs.Limits.{fits}
use Rattle.tks_tcl.specs.Variables.{is_missing, stores_global}
use Rattle.tks_button.specs.declared.caption.Assignment.{Assignment}
use Rattle.tks_state.specs.Links.{link_of, text_of, with_text, seen, first_assigned}
use Rattle.tks_state.specs.declared.widget.Widget.{Widget}
use Rattle.tks_cmd.specs.Contents.{holds_within}

-- a widget, and the variables beside it
abbrev pub Linked : Type 0
Linked = Widget × Variables

-- whether a variable is missing, by what reading it gives
abbrev pub is_lacking : Result (List ℕ) ScriptFault → Bool
is_lacking (Ok value) = false
is_lacking (Err fault) = is_missing fault.number

module _ (limits : Limits) where
  -- ---- globals that widgets set

  abbrev pub global_set : List ℕ → List ℕ → Variables → Result Variables Cause
  global_set name text variables = after (stores_global limits name variables text) (λ x. Ok x.1)

  -- a global that is missing is made with this text; any other stays
  abbrev pub made_global : List ℕ → List ℕ → Variables → Result Variables Cause
  made_global name text variables = if is_lacking (global_value_of variables name) then global_set name text variables else Ok variables

  -- ---- a change of a widget

  -- what becomes of the globals where the text that was seen becomes another under this link: where the link is new, or is set,
  -- be it to the name that it has, a global that is missing is made; else a text is told to its global where it changed
  abbrev pub told : Bool → Option (List ℕ) → List ℕ → List ℕ → List ℕ → Variables → Result Variables Cause
  told sets None name before now variables = made_global name now variables
  told sets (Some link) name before now variables =
      if sets || not (same_text link name) then made_global name now variables
      else (if same_text before now then Ok variables else global_set name now variables)

  -- a text that is linked is not stored: that of before stays
  abbrev pub stored : Bool → Option (List ℕ) → Widget → Widget → Variables → Result Linked Cause
  stored sets None w next variables = Ok (next, variables)
  stored sets (Some name) w next variables = after (told sets (link_of w) name (text_of (seen variables w)) (text_of next) variables) (λ v. Ok (with_text (text_of w) next, v))

  -- a widget after the one that was seen became another, and whether its link was set; neither its text nor what it holds
  -- passes a limit
  unfoldable pub settled : Bool → Widget → Widget → Variables → Result Linked Cause
  settled sets w next variables = if fits limits (text_of next) && holds_within limits next then stored sets (link_of next) w next variables else Err OverLimit

  -- ---- a checkbutton's own variable

  abbrev pub assigned_to : Option Assignment → Variables → Result Variables Cause
  assigned_to None variables = Ok variables
  assigned_to (Some a) variables = global_set a.variable a.value variables

  abbrev pub first_assigned_to : Option Assignment → Variables → Result Variables Cause
  first_assigned_to None variables = Ok variables
  first_assigned_to (Some a) variables = made_global a.variable a.value variables

  -- a checkbutton that is made sets its variable, where that is missing, to the value for off
  unfoldable pub first_value : Linked → Result Linked Cause
  first_value x = after (first_assigned_to (first_assigned x.0) x.1) (λ v. Ok (x.0, v))
