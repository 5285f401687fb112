-- What a button answers (button(n)); what it asks for and shows is a label's.
use Rattle.std.specs.Prelude.{ℕ, List, Option, Some, Ok}
use Rattle.tks_opt.specs.Calls as calls
use Rattle.tks_opt.specs.Calls.{Called}
use Rattle.tks_opt.specs.Options.{Options}
use Rattle.tks_button.specs.Action.{action_of, invoked}
use Rattle.tks_button.specs.declared.action.Action.{Action}
use Rattle.tks_button.specs.declared.action.Action.TheVariants as action

-- words that name an action of buttons; all others are those of any widget
abbrev pub answered : Options → List (List ℕ) → Option Action → Called
answered t words (Some action.Invoke) = Ok (invoked t, t)
answered t words other = calls.called t words

-- the words of a whole command, the window's path first: the answer, and the options that are left
abbrev pub called : Options → List (List ℕ) → Called
called t words = answered t words (action_of words)
