-- What a user of listboxes would doubt (listbox(n), "WIDGET COMMAND").
use Rattle.std.specs.Prelude.{◌≡◌, ℕ, suc, ◌+◌, ◌≤◌, ◌<◌, List, [], ◌∷◌, length, Option, slice_get}
use Rattle.tks_listbox.specs.Listbox.{Listbox, inserted, deleted}
use Rattle.tks_listbox.specs.declared.item.Item.{Item}

-- the active item
abbrev pub active_item : Listbox → Option Item
active_item l = slice_get l.items l.active

-- the active item is the one that it was, wherever it stands
abbrev pub SameActive : Listbox → Listbox → Type 0
SameActive before now = active_item now ≡ active_item before

-- texts came in at a place and were taken out again
abbrev pub in_and_out : ℕ → List (List ℕ) → Listbox → Listbox
in_and_out place texts l = deleted place (place + length texts) (inserted place texts l)

-- the items from one place up to another taken out: those before and those behind are what they were
pub record TakesOut (front behind : ℕ) (l m : Listbox) : Type 0 where
  pub before : (i : ℕ) → i < front → slice_get m.items i ≡ slice_get l.items i
  pub after : (i : ℕ) → slice_get m.items (front + i) ≡ slice_get l.items (behind + i)

-- numbers, each greater than the one before, from a lowest one on
abbrev pub Rises : ℕ → List ℕ → Type 0
Rises low [] = Unit {0}
Rises low (n ∷ ns) = (low ≤ n) × Rises (suc n) ns
