-- Reading a text item by item, from left to right. R is what the items make, F what may be wrong.
use Rattle.std.specs.Prelude.{ℕ, zero, suc, List, [], ◌∷◌, Option, Some, None}

-- what stands at the front of a text: nothing of this kind, a fault, or an item, as what it makes of
-- the items behind it, and how many bytes it takes behind its first
pub data Step (F R : Type 0) : Type 0 where
  stop : Step F R
  fails : F → Step F R
  takes : (R → R) → ℕ → Step F R

-- the items up to the first stop or fault, and how many bytes they take
pub record Run (F R : Type 0) : Type 0 where
  pub items : R
  pub fault : Option F
  pub taken : ℕ

abbrev pub with_item : {F R : Type 0} → (R → R) → Run F R → Run F R
with_item g r = record { items = g r.items; fault = r.fault; taken = r.taken }

abbrev pub past_byte : {F R : Type 0} → Run F R → Run F R
past_byte r = record { items = r.items; fault = r.fault; taken = suc r.taken }

abbrev pub ended : {F R : Type 0} → R → Option F → Run F R
ended none fault = record { items = none; fault = fault; taken = 0 }

-- go on with what a step says, where `go k` reads on behind k more bytes
abbrev pub after_step : {F R : Type 0} → R → Step F R → (ℕ → Run F R) → Run F R
after_step none stop go = ended none None
after_step none (fails f) go = ended none (Some f)
after_step none (takes g k) go = with_item g (past_byte (go k))

-- the items of a text behind its first k bytes
abbrev pub run : {F R : Type 0} → R → (List ℕ → Step F R) → ℕ → List ℕ → Run F R
run none step k [] = ended none None
run none step (suc k) (c ∷ u) = past_byte (run none step k u)
run none step zero (c ∷ u) = after_step none (step (c ∷ u)) (λ k. run none step k u)

-- what follows a reading: its fault, or what comes of its items and its length
abbrev pub on_run : {F R S : Type 0} → Run F R → (R → ℕ → Step F S) → Step F S
on_run r next = elim r.fault [ None ↦ next r.items r.taken | Some f ↦ fails f ]
