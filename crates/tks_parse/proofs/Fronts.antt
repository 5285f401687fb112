-- The command at the front of a script, and what is behind it.
use Rattle.std.proofs.Common.{◌≡◌, ℕ, ◌-◌, drop, length, List, [], ◌∷◌, ◌≤◌, Option, Some, None, refl, arith}
use Rattle.std.proofs.lemmas.List.{length-drop}
use Rattle.tks_text.specs.declared.fault.ScriptFault.{ScriptFault}
use Rattle.tks_parse.specs.declared.tree.Command.{Command}
use Rattle.tks_parse.specs.Tree.{no_command}
use Rattle.tks_parse.specs.View.{script_of_commands, first_words, behind}

pub behind_first : (commands : List Command) (fault : Option ScriptFault) → script_of_commands (drop 1 commands) fault ≡ behind (script_of_commands commands fault)
behind_first [] None = refl
behind_first [] (Some fault) = refl
behind_first (c ∷ rest) fault = refl

-- where no command is at the front the fault is all
pub fault_alone : (commands : List Command) (fault : Option ScriptFault) → first_words (script_of_commands commands fault) ≡ None → script_of_commands [] fault ≡ script_of_commands commands fault
fault_alone [] fault e = refl
fault_alone (c ∷ rest) fault e = absurd cc

-- an empty script has no command
none_of_empty : (commands : List Command) (fault : Option ScriptFault) → script_of_commands commands fault ≡ no_command → length commands ≡ 0
none_of_empty [] fault e = refl
none_of_empty (c ∷ rest) fault e = absurd cc

pub at_end_of_empty : (at : ℕ) (commands : List Command) (fault : Option ScriptFault) → at ≤ length commands → script_of_commands (drop at commands) fault ≡ no_command → at ≡ length commands
at_end_of_empty at commands fault within e = omega (arith, within, length-drop at commands, none_of_empty (drop at commands) fault e)

-- where neither a command nor a fault is behind the command at the front
pub none_behind : (at : ℕ) (commands : List Command) (fault : Option ScriptFault) → length commands - at ≤ 1 → fault ≡ None → behind (script_of_commands (drop at commands) fault) ≡ no_command
none_behind at commands fault one none = alone (drop at commands) fault (omega (arith, one, length-drop at commands)) none
  where
    alone : (commands : List Command) (fault : Option ScriptFault) → length commands ≤ 1 → fault ≡ None → behind (script_of_commands commands fault) ≡ no_command
    alone [] None h e = refl
    alone [] (Some f) h e = absurd cc
    alone (c ∷ []) None h e = refl
    alone (c ∷ []) (Some f) h e = absurd cc
    alone (c ∷ d ∷ rest) fault h e = absurd (omega (arith, h))

pub behind_none : (at : ℕ) (commands : List Command) (fault : Option ScriptFault) → behind (script_of_commands (drop at commands) fault) ≡ no_command → (length commands - at ≤ 1) × (fault ≡ None)
behind_none at commands fault e = let a = alone (drop at commands) fault e in (omega (arith, a.0, length-drop at commands), a.1)
  where
    alone : (commands : List Command) (fault : Option ScriptFault) → behind (script_of_commands commands fault) ≡ no_command → (length commands ≤ 1) × (fault ≡ None)
    alone [] None e = (omega arith, refl)
    alone [] (Some f) e = absurd cc
    alone (c ∷ []) None e = (omega arith, refl)
    alone (c ∷ []) (Some f) e = absurd cc
    alone (c ∷ d ∷ rest) fault e = absurd cc
