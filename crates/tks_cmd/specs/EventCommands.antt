-- The commands on bindings, events, the focus and scripts that wait, by their names (bind(n), bindtags(n), event(n),
-- focus(n), focusNext(n), after(n), update(n)).
use Rattle.std.specs.Prelude.{ℕ, Bool, is_some, if◌then◌else◌, codes, List, [], ◌∷◌, Option, Some, None, Result, Ok}
use Rattle.tks_text.specs.Text.{same_text}
use Rattle.tks_text.specs.declared.limits.Limits.{Limits}
use Rattle.tks_tcl.specs.Cause.{Cause, after, wrong_words}
use Rattle.tks_vars.specs.Variables.{Variables}
use Rattle.tks_state.specs.World.{World}
use Rattle.tks_state.specs.declared.rules.Rules.{Rules}
use Rattle.tks_state.specs.declared.rules.Rules.TheVariants.{One, Two}
use Rattle.tks_eval.specs.declared.host.Plan.{Plan}
use Rattle.tks_eval.specs.declared.host.Plan.TheVariants as plan
use Rattle.tks_cmd.specs.Changes.{Changed, Outcome, outcome}
use Rattle.tks_cmd.specs.After.{after_does}
use Rattle.tks_cmd.specs.Bindings.{bind_does, bindtags_does}
use Rattle.tks_cmd.specs.Events.{generate_does}
use Rattle.tks_cmd.specs.Focus.{focus_does, focus_next_does, focus_previous_does}
use Rattle.tks_cmd.specs.Update.{update_does}
use Rattle.tks_cmd.specs.VirtualEvents.{add_does, delete_does, info_does}
use Rattle.tks_cmd.specs.declared.event_commands.EventCommand.{EventCommand}
use Rattle.tks_cmd.specs.declared.event_commands.EventCommand.TheVariants as command

-- the command of a name that not all rules have (this project's own rule)
abbrev pub named_by : Rules → List ℕ → Option EventCommand
named_by One name = None
named_by Two name = if same_text name (codes "update") then Some command.Update else None

-- whether a name is that of such a command, beside those that are always there
abbrev pub is_built_in_by : Rules → List ℕ → Bool
is_built_in_by rules name = is_some (named_by rules name)

-- the command of a name
abbrev pub event_command_named : Rules → List ℕ → Option EventCommand
event_command_named rules name =
    if same_text name (codes "bind") then Some command.Bind
    else (if same_text name (codes "bindtags") then Some command.Bindtags
    else (if same_text name (codes "event") then Some command.Event
    else (if same_text name (codes "focus") then Some command.Focus
    else (if same_text name (codes "tk_focusNext") then Some command.FocusNext
    else (if same_text name (codes "tk_focusPrev") then Some command.FocusPrev
    else (if same_text name (codes "after") then Some command.After
    else named_by rules name))))))

-- an answer that is a text
abbrev pub told : Result Changed Cause → Result (Plan × World) Cause
told r = after r (λ x. Ok (plan.Answer 0 x.0, x.1))

-- it leaves the variables
abbrev pub planned : Variables → Result (Plan × World) Cause → Result Outcome Cause
planned variables r = after r (λ x. Ok (outcome x.0 x.1 variables))

-- ---- event add, event delete, event generate, event info

module _ (limits : Limits) where
  abbrev pub event_form_does : List ℕ → List ℕ → List (List ℕ) → World → Result (Plan × World) Cause
  event_form_does command form words w =
      if same_text form (codes "generate") then generate_does limits command words w
      else (if same_text form (codes "add") then told (add_does limits command words w)
      else (if same_text form (codes "delete") then told (delete_does command words w)
      else (if same_text form (codes "info") then told (info_does command words w)
      else wrong_words command)))

  abbrev pub event_does : List ℕ → List (List ℕ) → World → Result (Plan × World) Cause
  event_does command [] w = wrong_words command
  event_does command (form ∷ words) w = event_form_does command form words w

  -- ---- all of them

  -- what a command comes to with the words behind its name
  abbrev pub event_command_does : EventCommand → List ℕ → List (List ℕ) → World → Result (Plan × World) Cause
  event_command_does command.Bind name words w = told (bind_does limits name words w)
  event_command_does command.Bindtags name words w = told (bindtags_does limits name words w)
  event_command_does command.Event name words w = event_does name words w
  event_command_does command.Focus name words w = told (focus_does limits name words w)
  event_command_does command.FocusNext name words w = told (focus_next_does name words w)
  event_command_does command.FocusPrev name words w = told (focus_previous_does name words w)
  event_command_does command.After name words w = told (after_does limits name words w)
  event_command_does command.Update name words w = after (update_does name words) (λ p. Ok (p, w))
