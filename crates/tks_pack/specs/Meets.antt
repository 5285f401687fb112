-- What the code's answers say of the definitions.
use Rattle.std.specs.Prelude.{◌≡◌, Result, Ok, Err}
use Rattle.tks_text.specs.declared.fault.ScriptFault.{ScriptFault}
use Rattle.tks_text.specs.declared.fault.Failure.{Failure}
use Rattle.tks_text.specs.declared.fault.Failure.TheVariants as failure

-- a call that changes a value did what its definition says, or left it as it was; want of memory may come anywhere
abbrev pub PacksSo : {X Y : Type 0} → Result X Failure → Y → Y → Result Y ScriptFault → Type 0
PacksSo (Ok x) old new given = given ≡ Ok new
PacksSo (Err (failure.Script fault)) old new given = (given ≡ Err fault) × (new ≡ old)
PacksSo (Err failure.NoMemory) old new given = new ≡ old
