-- Interrupts, and the causes that they tell.
use Rattle.std.proofs.Common.{◌≡◌, Result, Err, sym, ap, ◌∙◌}
use Rattle.tks_text.specs.declared.fault.ScriptFault.{ScriptFault}
use Rattle.tks_tcl.specs.declared.interrupt.Interrupt.{Interrupt}
use Rattle.tks_tcl.specs.declared.interrupt.Interrupt.TheVariants as interrupt
use Rattle.tks_tcl.specs.Cause.{Cause, Fault}
use Rattle.tks_tcl.specs.Meets.{TellsSo, FailsSo}

-- an error that was told is the one that the definition gives
pub tells : {Y : Type 0} (fault : ScriptFault) (why : Interrupt) (given : Result Y Cause) → TellsSo fault why → given ≡ Err (Fault fault) → FailsSo why given
tells fault (interrupt.Script told) given h e = e ∙ ap (λ f. Err (Fault f)) (sym h)
tells fault interrupt.TooLarge given h e = absurd h
tells fault interrupt.NoMemory given h e = tt
