-- The bindings of a tag, and what is left without some (this project's own).
use Rattle.std.specs.Prelude.{ℕ, ◌≡◌, true, List, [], ◌∷◌, ◌++◌}
use Rattle.std.specs.FinMap as map
use Rattle.tks_share.specs.Maps.{Map}
use Rattle.tks_text.specs.Text.{same_text}
use Rattle.tks_bind.specs.Binding.{Content, unset}
use Rattle.tks_bind.specs.Chosen.{IsOneOf}
use Rattle.tks_bind.specs.declared.binding.Binding.{Binding}

-- ---- all items of groups

-- the items of lists, one list behind the other
abbrev pub all_listed : {X : Type 0} → List (List ℕ × List X) → List X
all_listed [] = []
all_listed (e ∷ es) = e.1 ++ all_listed es

abbrev pub all_grouped : {X : Type 0} → List (List ℕ × Map (List X)) → List X
all_grouped [] = []
all_grouped (e ∷ es) = all_listed (map.entries e.1) ++ all_grouped es

abbrev pub all_in : {X : Type 0} → Map (Map (List X)) → List X
all_in m = all_grouped (map.entries m)

-- ---- bindings

-- these are the bindings of a tag
pub record AreOf (tag : List ℕ) (bs found : List Binding) : Type 0 where
  pub from : (b : Binding) → IsOneOf b found → IsOneOf b bs × (same_text b.tag tag ≡ true)
  pub all : (b : Binding) → IsOneOf b bs → same_text b.tag tag ≡ true → IsOneOf b found

-- each of these is taken away
abbrev pub without_each : List Binding → Content → Content
without_each [] c = c
without_each (b ∷ gone) c = without_each gone (unset b.tag b.sequence c)
