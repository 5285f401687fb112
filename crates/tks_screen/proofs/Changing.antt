-- Items of a list that are changed one by one, at places in a row.
use Rattle.std.proofs.Common.{◌≡◌, ℕ, ◌<◌, ◌&&◌, nat_le, nat_lt, Bool, true, false, if◌then◌else◌, List, length, get_or, refl, sym, ◌∙◌, arith}
use Rattle.std.specs.Prelude.{map}
use Rattle.std.specs.List.{range_with_len}
use Rattle.std.proofs.lemmas.List.{ext_get_or}
use Rattle.std.proofs.lemmas.List.FromFn.{length-map-range_with_len, get_or-map-range_with_len}

-- an item, where those from one place up to another are changed
abbrev pub changed_to : {X : Type 0} → (ℕ → X → X) → X → ℕ → ℕ → List X → ℕ → X
changed_to change none from to items i = if nat_le from i && nat_lt i to then change i (get_or items i none) else get_or items i none

-- all are changed, where those at other places would stay
module _ {X : Type 0} (change : ℕ → X → X) (none : X) (from to : ℕ) (old now : List X) where
  abbrev each : ℕ → X
  each i = change i (get_or old i none)

  pub all_changed : length now ≡ length old → ((i : ℕ) → get_or now i none ≡ changed_to change none from to old i)
      → ((i : ℕ) → i < length old → (nat_le from i && nat_lt i to) ≡ false → change i (get_or old i none) ≡ get_or old i none)
      → now ≡ map (λ i. change i (get_or old i none)) (range_with_len 0 (length old))
  all_changed long changed stays =
      ext_get_or none now (map each (range_with_len 0 (length old))) (long ∙ sym (length-map-range_with_len each 0 (length old)))
      (λ i within. changed i ∙ by i (nat_le from i && nat_lt i to) refl (omega (arith, long)) ∙ sym (get_or-map-range_with_len each 0 (length old) i i none (omega (arith, long)) (omega arith)))
    where
      by : (i : ℕ) (b : Bool) → (nat_le from i && nat_lt i to) ≡ b → i < length old → (if b then change i (get_or old i none) else get_or old i none) ≡ each i
      by i true e within = refl
      by i false e within = sym (stays i within e)
