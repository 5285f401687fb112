-- What the code's answers say of the definitions.
use Rattle.std.specs.Prelude.{◌≡◌, ℕ, true, false, List, [], Option, Some, None, Result, Ok, Err}
use Rattle.tks_text.specs.Fault.{fault_text}
use Rattle.tks_text.specs.declared.fault.ScriptFault.{ScriptFault}
use Rattle.tks_text.specs.declared.limits.Limits.{Limits}
use Rattle.tks_text.specs.declared.fault.Failure.{Failure}
use Rattle.tks_text.specs.declared.fault.Failure.TheVariants as failure
use Rattle.tks_vars.specs.Variables.{Variables}
use Rattle.tks_tcl.specs.Cause.{Cause, Fault, OverLimit}
use Rattle.tks_text.specs.Limits.{fits}
use Rattle.tks_tcl.specs.Plain.{Answer, Answers, PassesLimit, Ending}
use Rattle.tks_tcl.specs.declared.interrupt.Interrupt.{Interrupt}
use Rattle.tks_tcl.specs.declared.interrupt.Interrupt.TheVariants as interrupt
use Rattle.tks_tcl.specs.declared.quiet.Quiet.{Quiet}
use Rattle.tks_tcl.specs.declared.quiet.Quiet.TheVariants as quiet
use Rattle.tks_tcl.specs.declared.stop.Stop.{Stop}
use Rattle.tks_tcl.specs.declared.stop.Stop.TheVariants as stop

-- an interrupt tells the cause; want of memory may come anywhere
abbrev pub FailsSo : {Y : Type 0} → Interrupt → Result Y Cause → Type 0
FailsSo (interrupt.Script fault) given = given ≡ Err (Fault fault)
FailsSo interrupt.TooLarge given = given ≡ Err OverLimit
FailsSo interrupt.NoMemory given = Unit {0}

-- what a call returned, seen by view, is what its definition gives, unless memory was refused
abbrev pub GivesSo : {X Y : Type 0} → (X → Y) → Result X Interrupt → Result Y Cause → Type 0
GivesSo view (Ok x) given = given ≡ Ok (view x)
GivesSo view (Err why) given = FailsSo why given

-- an interrupt tells this error; want of memory may come anywhere
abbrev pub TellsSo : ScriptFault → Interrupt → Type 0
TellsSo fault (interrupt.Script told) = told ≡ fault
TellsSo fault interrupt.TooLarge = ⊥
TellsSo fault interrupt.NoMemory = Unit {0}

-- the end by an error's text; want of memory may come anywhere
abbrev pub ErrsSo : Limits → ScriptFault → Result (ℕ × List ℕ) Stop → Type 0
ErrsSo limits fault (Ok x) = (x ≡ (1, fault_text fault)) × (fits limits (fault_text fault) ≡ true)
ErrsSo limits fault (Err stop.TooLarge) = fits limits (fault_text fault) ≡ false
ErrsSo limits fault (Err stop.NoMemory) = Unit {0}
ErrsSo limits fault (Err why) = ⊥

-- the text that an answer tells
abbrev pub text_of : Option Answer → List ℕ
text_of (Some (Answers code text new)) = text
text_of answer = []

-- what was answered, from old variables to new ones, is the definition's; want of memory may come anywhere
abbrev pub AnswersSo : Result (Option (ℕ × List ℕ)) Stop → Variables → Variables → Option Answer → Type 0
AnswersSo (Ok None) old new answer = (answer ≡ None) × (new ≡ old)
AnswersSo (Ok (Some x)) old new answer = answer ≡ Some (Answers x.0 x.1 new)
AnswersSo (Err stop.TooLarge) old new answer = (answer ≡ Some PassesLimit) × (new ≡ old)
AnswersSo (Err stop.NoMemory) old new answer = new ≡ old
AnswersSo (Err why) old new answer = ⊥

-- the same, where the text of an end by code 0 needn't be told
abbrev pub QuietlySo : Result (Option Quiet) Stop → Variables → Variables → Option Answer → Type 0
QuietlySo (Ok None) old new answer = AnswersSo (Ok None) old new answer
QuietlySo (Ok (Some quiet.Done)) old new answer = answer ≡ Some (Answers 0 (text_of answer) new)
QuietlySo (Ok (Some (quiet.Ended code text))) old new answer = AnswersSo (Ok (Some (code, text))) old new answer
QuietlySo (Err why) old new answer = AnswersSo (Err why) old new answer

-- the text that a command ended with
abbrev pub ended_text : Result Ending Cause → List ℕ
ended_text (Ok x) = x.0.1
ended_text (Err cause) = []

-- what a command came to, from whatever variables to these new ones, where the text of an end by code 0 needn't be told
abbrev pub EndsSo : Result Quiet Interrupt → Variables → Result Ending Cause → Type 0
EndsSo (Ok quiet.Done) new given = given ≡ Ok ((0, ended_text given), new)
EndsSo (Ok (quiet.Ended code text)) new given = given ≡ Ok ((code, text), new)
EndsSo (Err why) new given = FailsSo why given

-- the interrupt that a failure comes to
abbrev pub interrupt_of : Failure → Interrupt
interrupt_of (failure.Script fault) = interrupt.Script fault
interrupt_of failure.NoMemory = interrupt.NoMemory
