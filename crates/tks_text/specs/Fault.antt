-- The errors of scripts and their texts (this project's own rule).
use Rattle.std.specs.Prelude.{◌≡◌, ℕ, ◌+◌, ◌/◌, ◌%◌, List, [], ◌∷◌, take, Option, Some, None, Result, Ok, Err}
use Rattle.tks_text.specs.declared.fault.ErrorNumber.{ErrorNumber}
use Rattle.tks_text.specs.declared.fault.ErrorNumber.TheVariants as number
use Rattle.tks_text.specs.declared.fault.ScriptFault.{ScriptFault}
use Rattle.tks_text.specs.declared.fault.Failure.{Failure}
use Rattle.tks_text.specs.declared.fault.Failure.TheVariants.{Script, NoMemory}

abbrev pub number_of : ErrorNumber → ℕ
number_of number.MissingCloseBrace = 1
number_of number.MissingCloseQuote = 2
number_of number.MissingCloseBracket = 3
number_of number.TextAfterCloseQuote = 4
number_of number.TextAfterCloseBrace = 5
number_of number.BadEscape = 6
number_of number.TooDeeplyNested = 7
number_of number.MissingCloseOfVariable = 8
number_of number.NoSuchCommand = 9
number_of number.WrongWords = 10
number_of number.NoSuchVariable = 11
number_of number.WrongKindOfVariable = 12
number_of number.NotAnInteger = 13
number_of number.OutOfRange = 14
number_of number.NotAList = 15
number_of number.DivisionByZero = 16
number_of number.BadName = 17
number_of number.OutsideLoop = 18
number_of number.BadIndex = 19
number_of number.ExpressionSyntax = 20
number_of number.BadPath = 30
number_of number.WindowExists = 31
number_of number.NoSuchWindow = 32
number_of number.NotAllowedOnRoot = 33
number_of number.UnknownOption = 34
number_of number.BadValue = 35
number_of number.NoSuchMark = 36
number_of number.BadSequence = 40
number_of number.TooManyEvents = 41
number_of number.CannotBeGenerated = 42
number_of number.NoSuchAfterId = 45

-- a space and the first 64 bytes of the subject
abbrev pub subject_text : Option (List ℕ) → List ℕ
subject_text None = []
subject_text (Some subject) = 32 ∷ take 64 subject

-- `E`, two digits, and the subject
abbrev pub fault_text : ScriptFault → List ℕ
fault_text fault =
    let number = number_of fault.number in
    69 ∷ (48 + number / 10) ∷ (48 + number % 10) ∷ subject_text fault.subject

-- an error, and the text that it is about
abbrev pub fault_about : ErrorNumber → List ℕ → ScriptFault
fault_about number subject = record { number = number; subject = Some subject }

-- what a call returned, seen by view, is what its definition gives, unless memory was refused
abbrev pub Gives : {X Y : Type 0} → (X → Y) → Result X Failure → Result Y ScriptFault → Type 0
Gives view (Ok x) given = given ≡ Ok (view x)
Gives view (Err (Script fault)) given = given ≡ Err fault
Gives view (Err NoMemory) given = Unit {0}

-- a failure tells the error, unless memory was refused
abbrev pub TellsSo : ScriptFault → Failure → Type 0
TellsSo fault (Script told) = told ≡ fault
TellsSo fault NoMemory = Unit {0}
