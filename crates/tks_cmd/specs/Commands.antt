-- The commands on windows: which one words name, and what it comes to (this project's own rule).
use Rattle.std.specs.Prelude.{ℕ, Bool, true, if◌then◌else◌, codes, List, [], ◌∷◌, Option, Some, None, option_map, Result, Ok, Err}
use Rattle.tks_text.specs.Text.{same_text}
use Rattle.tks_text.specs.Fault.{fault_text}
use Rattle.tks_text.specs.declared.limits.Limits.{Limits}
use Rattle.tks_tcl.specs.Cause.{Cause, Fault, OverLimit}
use Rattle.tks_text.specs.Limits.{fits}
use Rattle.tks_vars.specs.Variables.{Variables}
use Rattle.tks_tree.specs.Windows.{of_path}
use Rattle.tks_state.specs.World.{World}
use Rattle.tks_state.specs.declared.rules.Rules.{Rules}
use Rattle.tks_eval.specs.Outcome.{Answer, Unknown, Comes, PassesLimit}
use Rattle.tks_eval.specs.declared.host.Plan.{Plan}
use Rattle.tks_eval.specs.declared.host.Plan.TheVariants as plan
use Rattle.tks_cmd.specs.Changes.{Outcome, beside}
use Rattle.tks_cmd.specs.Windows.{kind_named, make_does, destroy_does}
use Rattle.tks_cmd.specs.Widgets.{window_does}
use Rattle.tks_cmd.specs.Packing.{pack_does}
use Rattle.tks_cmd.specs.EventCommands.{event_command_named, event_command_does, planned}
use Rattle.tks_cmd.specs.declared.windows.WindowKind.{WindowKind}
use Rattle.tks_cmd.specs.declared.commands.Command.{Command}
use Rattle.tks_cmd.specs.declared.commands.Command.TheVariants as command

-- one that makes no windows
abbrev pub other_named : Rules → List ℕ → Option Command
other_named rules name =
    if same_text name (codes "destroy") then Some command.Destroy
    else (if same_text name (codes "pack") then Some command.Pack
    else option_map command.Events (event_command_named rules name))

abbrev pub making_or : Option WindowKind → Option Command → Option Command
making_or (Some kind) other = Some (command.Make kind)
making_or None other = other

-- the command of a name, by these rules
abbrev pub command_named : Rules → List ℕ → Option Command
command_named rules name = making_or (kind_named name) (other_named rules name)

module _ (limits : Limits) where
  -- what a command comes to with the words behind its name
  abbrev pub command_does : Command → List ℕ → List (List ℕ) → World → Variables → Result Outcome Cause
  command_does (command.Make kind) name words w variables = make_does limits kind name words w variables
  command_does command.Destroy name words w variables = beside variables (destroy_does name words w)
  command_does command.Pack name words w variables = beside variables (pack_does name words w)
  command_does (command.Events c) name words w variables = planned variables (event_command_does limits c name words w)

  -- a command of this name, or else a window whose path it is
  abbrev pub named_does : Option Command → List ℕ → List (List ℕ) → World → Variables → Option (Result Outcome Cause)
  named_does (Some c) name words w variables = Some (command_does c name words w variables)
  named_does None name words w variables = option_map (λ v. window_does limits v.number (name ∷ words) w variables) (of_path w.tree.windows name)

  -- what words come to, where the first of them is a command's name or a window's path
  abbrev pub words_do : List (List ℕ) → World → Variables → Option (Result Outcome Cause)
  words_do [] w variables = None
  words_do (name ∷ words) w variables = named_does (command_named w.rules name) name words w variables

  -- an answer's text passes no limit
  abbrev pub may_come : Plan → Bool
  may_come (plan.Answer code text) = fits limits text
  may_come other = true

  abbrev pub comes : Plan → World → Variables → Answer World
  comes p w variables = if may_come p then Comes p w variables else PassesLimit

  -- an error of the command's own leaves the world and the variables as they were
  abbrev pub answered : World → Variables → Option (Result Outcome Cause) → Answer World
  answered w variables None = Unknown
  answered w variables (Some (Ok x)) = comes x.plan x.world x.variables
  answered w variables (Some (Err (Fault fault))) = comes (plan.Answer 1 (fault_text fault)) w variables
  answered w variables (Some (Err OverLimit)) = PassesLimit

  -- what words come to as a command on windows
  abbrev pub does : World → Variables → List (List ℕ) → Answer World
  does w variables words = answered w variables (words_do words w variables)
