-- What buttons can be told to do (button(n), checkbutton(n), "WIDGET COMMAND").
use Rattle.std.specs.Prelude.{ℕ, Bool, true, false, if◌then◌else◌, List, [], ◌∷◌, Option, Some, None, option_and_then, codes}
use Rattle.tks_opt.specs.Options.{Options, value_in}
use Rattle.tks_opt.specs.Values.{named_in, state_named}
use Rattle.tks_opt.specs.declared.name.OptionName.TheVariants as name
use Rattle.tks_opt.specs.declared.said.Said.{Said}
use Rattle.tks_opt.specs.declared.said.Said.TheVariants.{Text, Run}
use Rattle.tks_opt.specs.declared.state.State.{State}
use Rattle.tks_opt.specs.declared.state.State.TheVariants as state
use Rattle.tks_button.specs.Sizes.{said_by}
use Rattle.tks_button.specs.declared.action.Action.{Action}
use Rattle.tks_button.specs.declared.action.Action.TheVariants as action

abbrev pub actions : List (List ℕ × Action)
actions = (codes "invoke", action.Invoke) ∷ (codes "select", action.Select) ∷ (codes "deselect", action.Deselect) ∷ (codes "toggle", action.Toggle) ∷ []

-- the action that the words of a whole command name: the window's path and an action's name, and no word behind it
abbrev pub action_of : List (List ℕ) → Option Action
action_of [] = None
action_of (path ∷ []) = None
action_of (path ∷ text ∷ []) = named_in actions text
action_of (path ∷ text ∷ word ∷ words) = None

abbrev pub says_disabled : Option State → Bool
says_disabled (Some state.Disabled) = true
says_disabled other = false

-- what `-state` says
abbrev pub is_disabled : Options → Bool
is_disabled t = says_disabled (option_and_then state_named (value_in t.values name.State))

-- `invoke` runs what `-command` says; where the button is disabled it runs nothing, and answers the empty text
abbrev pub invoked : Options → Said
invoked t = if is_disabled t then Text [] else Run (said_by t name.Command)
