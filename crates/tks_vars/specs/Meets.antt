-- What the code's answers say of the definitions.
use Rattle.std.specs.Prelude.{◌≡◌, ℕ, List, Option, option_map, Result, Ok, Err}
use Rattle.std.specs.Borrow.{Bor}
use Rattle.tks_text.specs.declared.fault.ErrorNumber.{ErrorNumber}

abbrev pub index_seen : Option (Bor (List ℕ)) → Option (List ℕ)
index_seen index = option_map (λ i. i.now) index

-- an answer without want of memory is the definition's
abbrev pub AnswersSo : {X Y : Type 0} → (X → Y) → Result X ErrorNumber → Result Y ErrorNumber → Type 0
AnswersSo view (Ok x) given = given ≡ Ok (view x)
AnswersSo view (Err number) given = given ≡ Err number

-- there is a value, and this holds of it
abbrev pub IsValue : {X E : Type 0} → (X → Type 0) → Result X E → Type 0
IsValue P (Ok x) = P x
IsValue P (Err e) = ⊥
