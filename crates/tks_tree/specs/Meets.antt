-- What the code's answers say of the definitions.
use Rattle.std.specs.Prelude.{◌≡◌, Result, Ok, Err}
use Rattle.tks_text.specs.declared.fault.ScriptFault.{ScriptFault}
use Rattle.tks_tree.specs.Windows.{Refusal, Fault, OutOfNumbers}
use Rattle.tks_tree.specs.declared.fault.CreateFault.{CreateFault}
use Rattle.tks_tree.specs.declared.fault.CreateFault.TheVariants as refusal

-- a refusal is the definition's; want of memory may come anywhere
abbrev pub RefusesSo : {Y : Type 0} → CreateFault → Result Y Refusal → Type 0
RefusesSo (refusal.Script told) given = given ≡ Err (Fault told)
RefusesSo refusal.OutOfNumbers given = given ≡ Err OutOfNumbers
RefusesSo refusal.NoMemory given = Unit {0}

-- what was made, seen by view, is what the definition makes, unless memory was refused
abbrev pub MakesSo : {X Y : Type 0} → (X → Y) → Result X CreateFault → Result Y Refusal → Type 0
MakesSo view (Ok x) given = given ≡ Ok (view x)
MakesSo view (Err why) given = RefusesSo why given

-- an answer is the definition's
abbrev pub AnswersSo : {X Y E : Type 0} → (X → Y) → Result X E → Result Y E → Type 0
AnswersSo view (Ok x) given = given ≡ Ok (view x)
AnswersSo view (Err why) given = given ≡ Err why

-- a refusal tells this error; want of memory may come anywhere
abbrev pub TellsSo : ScriptFault → CreateFault → Type 0
TellsSo fault (refusal.Script told) = told ≡ fault
TellsSo fault refusal.OutOfNumbers = ⊥
TellsSo fault refusal.NoMemory = Unit {0}
