-- What the code's answers say of the definitions.
use Rattle.std.specs.Prelude.{◌≡◌, true, false, Option, Some, None, Result, Ok, Err}
use Rattle.tks_text.specs.Fault.{fault_text}
use Rattle.tks_text.specs.declared.fault.ScriptFault.{ScriptFault}
use Rattle.tks_text.specs.declared.limits.Limits.{Limits}
use Rattle.tks_tcl.specs.Cause.{Cause, Fault, OverLimit}
use Rattle.tks_text.specs.Limits.{fits}
use Rattle.tks_tcl.specs.declared.interrupt.Interrupt.{Interrupt}
use Rattle.tks_tcl.specs.declared.interrupt.Interrupt.TheVariants as interrupt
use Rattle.tks_tcl.specs.declared.stop.Stop.{Stop}
use Rattle.tks_tcl.specs.declared.stop.Stop.TheVariants as stop
use Rattle.tks_tree.specs.declared.fault.CreateFault.{CreateFault}
use Rattle.tks_tree.specs.declared.fault.CreateFault.TheVariants as refusal
use Rattle.tks_state.specs.World.{World}
use Rattle.tks_eval.specs.declared.host.Plan.{Plan}
use Rattle.tks_eval.specs.declared.host.Plan.TheVariants as plan
use Rattle.tks_vars.specs.Variables.{Variables}
use Rattle.tks_cmd.specs.Changes.{Outcome, outcome}

-- an error of the script's own leaves a value as it was
abbrev pub KeepsSo : {X Y : Type 0} → Result X Interrupt → Y → Y → Type 0
KeepsSo (Err (interrupt.Script fault)) old new = new ≡ old
KeepsSo other old new = Unit {0}

-- what came of words, from an old world and variables to new ones, is the definition's; want of memory may come
-- anywhere
abbrev pub RunsSo : Result (Option Plan) Interrupt → World → World → Variables → Variables → Option (Result Outcome Cause) → Type 0
RunsSo (Ok None) old new before now given = (given ≡ None) × (new ≡ old) × (now ≡ before)
RunsSo (Ok (Some p)) old new before now given = given ≡ Some (Ok (outcome p new now))
RunsSo (Err (interrupt.Script fault)) old new before now given = (given ≡ Some (Err (Fault fault))) × (new ≡ old) × (now ≡ before)
RunsSo (Err interrupt.TooLarge) old new before now given = given ≡ Some (Err OverLimit)
RunsSo (Err interrupt.NoMemory) old new before now given = Unit {0}

-- a stop tells that a limit is passed; want of memory may come anywhere
abbrev pub StopsSo : {Y : Type 0} → Stop → Result Y Cause → Type 0
StopsSo stop.TooLarge given = given ≡ Err OverLimit
StopsSo stop.NoMemory given = Unit {0}
StopsSo why given = ⊥

-- what a call returned, seen by view, is what its definition gives, or a stop tells why there is nothing
abbrev pub LimitsSo : {X Y : Type 0} → (X → Y) → Result X Stop → Result Y Cause → Type 0
LimitsSo view (Ok x) given = given ≡ Ok (view x)
LimitsSo view (Err why) given = StopsSo why given

-- the end by an error's text; want of memory may come anywhere
abbrev pub ErrsSo : Limits → ScriptFault → Result Plan Stop → Type 0
ErrsSo limits fault (Ok (plan.Answer code text)) = (code ≡ 1) × (text ≡ fault_text fault) × (fits limits (fault_text fault) ≡ true)
ErrsSo limits fault (Ok other) = ⊥
ErrsSo limits fault (Err stop.TooLarge) = fits limits (fault_text fault) ≡ false
ErrsSo limits fault (Err stop.NoMemory) = Unit {0}
ErrsSo limits fault (Err why) = ⊥

-- the interrupt that a window comes to that isn't made
abbrev pub interrupt_of : CreateFault → Interrupt
interrupt_of (refusal.Script fault) = interrupt.Script fault
interrupt_of refusal.OutOfNumbers = interrupt.TooLarge
interrupt_of refusal.NoMemory = interrupt.NoMemory
