-- Failures, and the faults that they tell.
use Rattle.std.proofs.Common.{◌≡◌, Result, Err, sym, ap, ◌∙◌}
use Rattle.tks_text.specs.declared.fault.ScriptFault.{ScriptFault}
use Rattle.tks_text.specs.declared.fault.Failure.{Failure}
use Rattle.tks_text.specs.declared.fault.Failure.TheVariants as failure
use Rattle.tks_text.specs.Fault.{Gives, TellsSo}

-- an error that was told is the one that the definition gives
pub tells : {X Y : Type 0} (view : X → Y) (fault : ScriptFault) (why : Failure) (given : Result Y ScriptFault) → TellsSo fault why → given ≡ Err fault → Gives view (Err why) given
tells view fault (failure.Script told) given h e = e ∙ ap Err (sym h)
tells view fault failure.NoMemory given h e = tt
