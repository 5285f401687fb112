-- Between which places a listbox's selected items stand (this project's own rule).
use Rattle.std.specs.Prelude.{◌≡◌, ◌≤◌, ◌<◌, ℕ, ◌+◌, ◌-◌, nat_le, nat_lt, min, max, Bool, true, if◌then◌else◌, List, [], length, get_or}
use Rattle.tks_listbox.specs.Listbox.{new_item}
use Rattle.tks_listbox.specs.declared.item.Item.{Item}
use Rattle.tks_listbox.specs.declared.bounds.Bounds.{Bounds}

-- what stands where there is no item
abbrev pub no_item : Item
no_item = new_item []

-- whether the item in a place is selected
abbrev pub is_on : List Item → ℕ → Bool
is_on items place = (get_or items place no_item).is_selected

-- all selected items stand from the one place on, and before the other
pub record Encloses (b : Bounds) (items : List Item) : Type 0 where
  pub order : b.front ≤ b.behind
  pub within : b.behind ≤ length items
  pub around : (place : ℕ) → is_on items place ≡ true → (b.front ≤ place) × (place < b.behind)

-- those of no selected item
abbrev pub nowhere : Bounds
nowhere = record { front = 0; behind = 0 }

-- where so many items that aren't selected come in at a place
abbrev pub come_in : ℕ → ℕ → Bounds → Bounds
come_in place count b =
    if nat_le b.behind place then b
    else record { front = if nat_le place b.front then b.front + count else b.front; behind = b.behind + count }

-- where the items from one place up to another go out
abbrev pub go_out : ℕ → ℕ → Bounds → Bounds
go_out front behind b = record { front = b.front - (min b.front behind - front); behind = b.behind - (min b.behind behind - front) }

-- where those of a range are selected
abbrev pub with_range : ℕ → ℕ → Bounds → Bounds
with_range front behind b =
    if nat_le behind front then b
    else (if nat_le b.behind b.front then record { front = front; behind = behind }
    else record { front = min b.front front; behind = max b.behind behind })

-- where they are taken out of the selection
abbrev pub without_range : ℕ → ℕ → Bounds → Bounds
without_range front behind b =
    if nat_lt behind b.behind then record { front = if nat_le front b.front then max b.front behind else b.front; behind = b.behind }
    else (if nat_lt b.front front then record { front = b.front; behind = min b.behind front } else nowhere)

abbrev pub turned_range : Bool → ℕ → ℕ → Bounds → Bounds
turned_range on front behind b = if on then with_range front behind b else without_range front behind b
