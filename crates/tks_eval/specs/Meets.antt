-- What the code's answers say of the definitions.
use Rattle.std.specs.Prelude.{◌≡◌, ℕ, suc, true, false, Option, Some, None, Result, Ok, Err}
use Rattle.tks_text.specs.Fault.{fault_text}
use Rattle.tks_text.specs.declared.fault.ScriptFault.{ScriptFault}
use Rattle.tks_text.specs.declared.limits.Limits.{Limits}
use Rattle.tks_text.specs.declared.fault.Failure.{Failure}
use Rattle.tks_text.specs.declared.fault.Failure.TheVariants as failure
use Rattle.tks_vars.specs.Variables.{Variables}
use Rattle.tks_tcl.specs.declared.interrupt.Interrupt.{Interrupt}
use Rattle.tks_tcl.specs.declared.interrupt.Interrupt.TheVariants as interrupt
use Rattle.tks_tcl.specs.declared.stop.Stop.{Stop}
use Rattle.tks_tcl.specs.declared.stop.Stop.TheVariants as stop
use Rattle.tks_eval.specs.Outcome.{Outcome, End, Stopped, OutOfSteps, TooDeep, TooLarge, Answer, Unknown, Comes, PassesLimit, Taken, Nothing, Takes, TooMuch}
use Rattle.tks_text.specs.Limits.{fits}
use Rattle.tks_eval.specs.declared.frame.Ending.{Ending}
use Rattle.tks_eval.specs.declared.ended.Ended.{Ended}
use Rattle.tks_eval.specs.declared.host.Plan.{Plan}
use Rattle.tks_eval.specs.declared.halt.Halt.{Halt}
use Rattle.tks_eval.specs.declared.halt.Halt.TheVariants as halt

-- ---- hosts

-- what a call returned is the host's answer; a host stops at a limit or for want of memory alone
abbrev pub AnswersSo : {S : Type 0} → Answer S → Result (Option Plan) Stop → S → S → Variables → Variables → Type 0
AnswersSo answer (Ok None) old new variables variables' = (answer ≡ Unknown) × (new ≡ old) × (variables' ≡ variables)
AnswersSo answer (Ok (Some p)) old new variables variables' = answer ≡ Comes p new variables'
AnswersSo answer (Err stop.TooLarge) old new variables variables' = answer ≡ PassesLimit
AnswersSo answer (Err stop.NoMemory) old new variables variables' = Unit {0}
AnswersSo answer (Err why) old new variables variables' = ⊥

-- what was taken out is the host's next; a host stops at a limit or for want of memory alone
abbrev pub TakesSo : {S : Type 0} → Taken S → Result (Option Plan) Stop → S → S → Type 0
TakesSo taken (Ok None) old new = (taken ≡ Nothing) × (new ≡ old)
TakesSo taken (Ok (Some p)) old new = taken ≡ Takes p new
TakesSo taken (Err stop.TooLarge) old new = taken ≡ TooMuch
TakesSo taken (Err stop.NoMemory) old new = Unit {0}
TakesSo taken (Err why) old new = ⊥

-- a fault joined the others, or memory was refused
abbrev pub FaultsSo : {S : Type 0} → Result (Unit {0}) Stop → S → S → Type 0
FaultsSo (Ok done) new faulted = new ≡ faulted
FaultsSo (Err stop.NoMemory) new faulted = Unit {0}
FaultsSo (Err why) new faulted = ⊥

-- ---- halts

abbrev pub halt_of_failure : Failure → Halt
halt_of_failure (failure.Script fault) = halt.Fault fault
halt_of_failure failure.NoMemory = halt.Stop stop.NoMemory

abbrev pub halt_of_interrupt : Interrupt → Halt
halt_of_interrupt (interrupt.Script fault) = halt.Fault fault
halt_of_interrupt interrupt.TooLarge = halt.Stop stop.TooLarge
halt_of_interrupt interrupt.NoMemory = halt.Stop stop.NoMemory

-- an error is this one; want of memory may come anywhere
abbrev pub TellsSo : ScriptFault → Halt → Type 0
TellsSo fault (halt.Fault told) = told ≡ fault
TellsSo fault (halt.Stop stop.NoMemory) = Unit {0}
TellsSo fault (halt.Stop why) = ⊥

-- ---- ends

-- a stop is the definition's; want of memory may come anywhere
abbrev pub StopsSo : {S : Type 0} → Outcome S → Stop → Type 0
StopsSo outcome stop.Budget = outcome ≡ Stopped OutOfSteps
StopsSo outcome stop.Depth = outcome ≡ Stopped TooDeep
StopsSo outcome stop.TooLarge = outcome ≡ Stopped TooLarge
StopsSo outcome stop.NoMemory = Unit {0}

-- the end by an error; want of memory may come anywhere
abbrev pub FailsSo : Limits → ScriptFault → Result Ending Stop → Type 0
FailsSo limits fault (Ok end) = (end.code ≡ 1) × (end.text ≡ fault_text fault) × (fits limits (fault_text fault) ≡ true)
FailsSo limits fault (Err stop.TooLarge) = fits limits (fault_text fault) ≡ false
FailsSo limits fault (Err stop.NoMemory) = Unit {0}
FailsSo limits fault (Err why) = ⊥

-- a run's end is the definition's
abbrev pub EndsSo : {S : Type 0} → Outcome S → Result Ended Stop → S → Variables → Type 0
EndsSo outcome (Ok ended) state variables = outcome ≡ End ended.code ended.text state variables ended.fuel
EndsSo outcome (Err why) state variables = StopsSo outcome why

-- a step is taken, or there is none left
abbrev pub TakesStep : Result (Unit {0}) Stop → ℕ → ℕ → Type 0
TakesStep (Ok done) old new = old ≡ suc new
TakesStep (Err stop.Budget) old new = (old ≡ 0) × (new ≡ 0)
TakesStep (Err why) old new = ⊥
