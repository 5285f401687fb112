-- Changes of what stands under one name.
use Rattle.std.proofs.Common.{◌≡◌, ℕ, List, Result, Ok, Err}
use Rattle.tks_text.specs.Fault.{Gives}
use Rattle.tks_text.specs.declared.fault.ErrorNumber.{ErrorNumber}
use Rattle.tks_text.specs.declared.fault.ScriptFault.{ScriptFault}
use Rattle.tks_text.specs.declared.fault.Failure.{Failure}
use Rattle.tks_text.specs.declared.fault.Failure.TheVariants as failure
use Rattle.tks_vars.specs.Variables.{about, after}

-- a failure of a part is the failure of the whole
pub failed : {X X' Y Y' : Type 0} (view : X → Y) (view' : X' → Y') (why : Failure) (given : Result Y ScriptFault) (given' : Result Y' ScriptFault)
    → ((fault : ScriptFault) → given ≡ Err fault → given' ≡ Err fault) → Gives view (Err why) given → Gives view' (Err why) given'
failed view view' (failure.Script fault) given given' same is = same fault is
failed view view' failure.NoMemory given given' same is = tt

module _ (text : List ℕ) where
  pub about_after : {X Y : Type 0} (r : Result X ErrorNumber) (f : X → Y) (x : X) → about text r ≡ Ok x → about text (after r f) ≡ Ok (f x)
  about_after (Ok y) f x e = cc
  about_after (Err number) f x e = absurd cc

  pub about_failed : {X Y : Type 0} (r : Result X ErrorNumber) (f : X → Y) (fault : ScriptFault) → about text r ≡ Err fault → about text (after r f) ≡ Err fault
  about_failed (Ok y) f fault e = absurd cc
  about_failed (Err number) f fault e = cc
