-- What a command comes to: a value, or why there is none.
use Rattle.std.specs.Prelude.{ℕ, if◌then◌else◌, List, Some, None, Result, Ok, Err}
use Rattle.tks_text.specs.declared.fault.ErrorNumber.{ErrorNumber}
use Rattle.tks_text.specs.declared.fault.ErrorNumber.TheVariants.{WrongWords}
use Rattle.tks_text.specs.declared.fault.ScriptFault.{ScriptFault}
use Rattle.tks_text.specs.Limits.{fits}
use Rattle.tks_text.specs.declared.limits.Limits.{Limits}

-- an error of the script's own, or something that would pass a limit
pub data Cause : Type 0 where
  Fault : (fault : ScriptFault) → Cause
  OverLimit : Cause

-- what follows a value
abbrev pub after : {X Y : Type 0} → Result X Cause → (X → Result Y Cause) → Result Y Cause
after (Ok x) next = next x
after (Err cause) next = Err cause

-- a value or an error
abbrev pub value_or_fault : {X : Type 0} → Result X ScriptFault → Result X Cause
value_or_fault (Ok x) = Ok x
value_or_fault (Err fault) = Err (Fault fault)

-- an error about a text, and one about nothing that has a name
abbrev pub about : ErrorNumber → List ℕ → ScriptFault
about number subject = record { number = number; subject = Some subject }

abbrev pub bare : ErrorNumber → ScriptFault
bare number = record { number = number; subject = None }

-- the error of a command that has a wrong number of words, or a subcommand that it doesn't know
abbrev pub wrong_words : {X : Type 0} → List ℕ → Result X Cause
wrong_words command = Err (Fault (about WrongWords command))

module _ (limits : Limits) where
  -- a text, where it passes no limit
  abbrev pub within : List ℕ → Result (List ℕ) Cause
  within text = if fits limits text then Ok text else Err OverLimit
