-- What a command that runs no script comes to.
use Rattle.std.specs.Prelude.{ℕ, if◌then◌else◌, List, [], ◌∷◌, codes, Option, Some, None, option_map, Result, Ok, Err}
use Rattle.tks_text.specs.Text.{same_text}
use Rattle.tks_text.specs.Fault.{fault_text}
use Rattle.tks_text.specs.declared.fault.ScriptFault.{ScriptFault}
use Rattle.tks_text.specs.declared.limits.Limits.{Limits}
use Rattle.tks_vars.specs.Variables.{Variables}
use Rattle.tks_tcl.specs.Cause.{Cause, Fault, OverLimit, after}
use Rattle.tks_text.specs.Limits.{fits}
use Rattle.tks_tcl.specs.Codes.{CodeCommand, code_named}
use Rattle.tks_tcl.specs.Lists.{ListCommand, list_named}
use Rattle.tks_tcl.specs.Strings.{string_does}
use Rattle.tks_tcl.specs.Variables.{Changed, VariableCommand, answers, variable_named}

-- a command ends with a code, 0 ok, 1 error, 2 return, 3 break or 4 continue, and a text, and leaves these
-- variables; or it would pass a limit
pub data Answer : Type 0 where
  Answers : (code : ℕ) (text : List ℕ) (variables : Variables) → Answer
  PassesLimit : Answer

-- a code and a text, and the variables that are left
abbrev pub Ending : Type 0
Ending = (ℕ × List ℕ) × Variables

-- an answer as the end of a command that went well
abbrev pub with_code_0 : Changed → Result Ending Cause
with_code_0 x = Ok ((0, x.0), x.1)

-- a command: what it comes to, given the limits, its first word, the others and the variables
abbrev pub Command : Type 0
Command = Limits → List ℕ → List (List ℕ) → Variables → Result Ending Cause

-- one on lists or texts leaves the variables as they are
abbrev pub of_lists : ListCommand → Command
of_lists does limits name words variables = after (answers limits variables (does name words)) with_code_0

-- one on variables
abbrev pub of_variables : VariableCommand → Command
of_variables does limits name words variables = after (does limits name words variables) with_code_0

-- one with a code of its own leaves the variables too
abbrev pub of_code : CodeCommand → Command
of_code does limits name words variables = after (does limits name words) (λ x. Ok (x, variables))

-- a value, or else another one
abbrev pub or_else : {X : Type 0} → Option X → Option X → Option X
or_else None next = next
or_else (Some x) next = Some x

-- the command of this name
abbrev pub command_named : List ℕ → Option Command
command_named name =
    if same_text name (codes "string") then Some (of_lists string_does)
    else or_else (option_map of_variables (variable_named name))
    (or_else (option_map of_lists (list_named name)) (option_map of_code (code_named name)))

module _ (limits : Limits) where
  -- an error, whose text passes no limit
  abbrev pub errs : ScriptFault → Variables → Answer
  errs fault variables = if fits limits (fault_text fault) then Answers 1 (fault_text fault) variables else PassesLimit

  -- an error leaves the variables as they were
  abbrev pub answered : Variables → Result Ending Cause → Answer
  answered variables (Ok x) = Answers x.0.0 x.0.1 x.1
  answered variables (Err (Fault fault)) = errs fault variables
  answered variables (Err OverLimit) = PassesLimit

  -- what words come to as a command, where their first is the name of one that runs no script
  abbrev pub plain : List (List ℕ) → Variables → Option Answer
  plain [] variables = None
  plain (name ∷ words) variables = option_map (λ does. answered variables (does limits name words variables)) (command_named name)
