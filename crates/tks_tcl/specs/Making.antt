-- What is made of a value where it stands (incr(n), append(n), lappend(n)).
use Rattle.std.specs.Prelude.{◌≡◌, ℕ, ◌+◌, nat_le, if◌then◌else◌, List, ◌++◌, codes, Option, Some, None, Result, Ok, Err, IfOk}
use Rattle.std.specs.Borrow.{Bor}
use Rattle.tks_text.specs.declared.limits.Limits.{Limits}
use Rattle.tks_list.specs.Quoting.{joined}
use Rattle.tks_tcl.specs.Cause.{Cause, OverLimit, after, within}
use Rattle.tks_tcl.specs.Meets.{FailsSo}
use Rattle.tks_tcl.specs.Room.{room_of}
use Rattle.tks_tcl.specs.Words.{list_in}
use Rattle.tks_tcl.specs.declared.interrupt.Interrupt.{Interrupt}

-- a value became what is made of it, which passes no limit, or an interrupt tells why there is none and nothing has changed
abbrev pub MakesSo : {X : Type 0} → Limits → Result (List ℕ) Cause → List ℕ → List ℕ → Result X Interrupt → Type 0
MakesSo limits made before new (Ok x) = after made (within limits) ≡ Ok new
MakesSo limits made before new (Err why) = FailsSo why (after made (within limits)) × (new ≡ before)

-- the same, and what it became is told
abbrev pub TellsMade : Limits → Result (List ℕ) Cause → List ℕ → List ℕ → Result (List ℕ) Interrupt → Type 0
TellsMade limits made before new answer = MakesSo limits made before new answer × IfOk answer (λ text. text ≡ new)

-- a value became this one, unless memory was refused
abbrev pub PutsSo : {E : Type 0} → List ℕ → List ℕ → List ℕ → Result (Unit {0}) E → Type 0
PutsSo value before new (Ok done) = new ≡ value
PutsSo value before new (Err e) = new ≡ before

-- the list that a value splits into, and these elements behind it; over the limit where these alone pass it
abbrev pub list_with : Limits → List ℕ → List (List ℕ) → Result (List ℕ) Cause
list_with limits value elements =
    after (list_in value) (λ l. if nat_le (room_of 1 elements) (limits.text + 1) then Ok (joined (l ++ elements)) else Err OverLimit)

-- what incr adds: the integer that is given, or 1
abbrev pub amount_text : Option (Bor (List ℕ)) → List ℕ
amount_text None = codes "1"
amount_text (Some amount) = amount.now
