-- A listbox: its options, its items, each selected or not, and the active one (listbox(n)). That an index is a whole
-- word, which ones there are, and what becomes of the active item, are this project's own rules.
use Rattle.std.specs.Prelude.{ℕ, zero, suc, ◌+◌, ◌-◌, ◌<◌, ◌&&◌, nat_lt, nat_le, min, max, Bool, true, false, if◌then◌else◌, List, [], ◌∷◌, ◌++◌, map, length, take, drop, codes, ℤ, pos, negsuc, Option, Some, None, option_and_then, slice_get, Result, Ok, Err}
use Rattle.tks_text.specs.Text.{same_text}
use Rattle.tks_text.specs.Integer.{integer_of}
use Rattle.tks_text.specs.Fault.{fault_about}
use Rattle.tks_text.specs.declared.integer.Range.{Range}
use Rattle.tks_text.specs.declared.class.Class.{Class}
use Rattle.tks_text.specs.declared.class.Class.TheVariants as class
use Rattle.tks_text.specs.declared.fault.ErrorNumber.TheVariants.{BadIndex, OutOfRange}
use Rattle.tks_text.specs.declared.fault.ScriptFault.{ScriptFault}
use Rattle.tks_opt.specs.Options.{Options, first_options, value_in}
use Rattle.tks_opt.specs.Values.{state_named, is_normal}
use Rattle.tks_opt.specs.declared.name.OptionName.TheVariants as name
use Rattle.tks_listbox.specs.declared.item.Item.{Item}

pub record Listbox : Type 0 where
  pub options : Options
  pub items : List Item
  -- the place of the active item; 0 where there is none
  pub active : ℕ

abbrev pub first_listbox : List ℕ → Listbox
first_listbox path = record { options = first_options class.Listbox path; items = []; active = 0 }

-- there is an item in the active place, unless there is none at all
abbrev pub HasActive : List Item → ℕ → Type 0
HasActive items active = active < max 1 (length items)

-- ---- making it again

abbrev pub is_listbox : Class → Bool
is_listbox class.Listbox = true
is_listbox c = false

-- whether there is an item in a place, unless there is none at all
abbrev pub has_active : List Item → ℕ → Bool
has_active items active = nat_lt active (max 1 (length items))

-- the listbox that has these, where the place may be that of the active item
abbrev pub restored : Options → List Item → ℕ → Option Listbox
restored options items active =
    if is_listbox options.class && has_active items active then Some (record { options = options; items = items; active = active }) else None

-- ---- indices

abbrev pub place_read : List ℕ → Result (Option ℤ) Range → Result ℤ ScriptFault
place_read word (Ok (Some z)) = Ok z
place_read word (Ok None) = Err (fault_about BadIndex word)
place_read word (Err range) = Err (record { number = OutOfRange; subject = None })

-- what an index says, where `end` is this: `active`, `end`, or an integer, which may be outside
unfoldable pub index_in : ℕ → ℤ → List ℕ → Result ℤ ScriptFault
index_in active last word =
    if same_text word (codes "active") then Ok (pos active)
    else (if same_text word (codes "end") then Ok last
    else place_read word (integer_of word))

-- the last of so many places; of none, the one before the first
abbrev pub last_of : ℕ → ℤ
last_of zero = negsuc 0
last_of (suc n) = pos n

-- the nearest place from 0 up to another
abbrev pub rounded : ℤ → ℕ → ℕ
rounded (pos n) most = min n most
rounded (negsuc n) most = 0

-- ---- ranges, from one place up to another, which is in them

-- the first place of a range
abbrev pub front_of : ℤ → ℕ
front_of (pos n) = n
front_of (negsuc n) = 0

-- the place behind a range, among so many
abbrev pub behind_of : ℤ → ℕ → ℕ
behind_of (pos n) len = min (suc n) len
behind_of (negsuc n) len = 0

-- the items of a range; a reversed one has none
abbrev pub among : {X : Type 0} → ℕ → ℕ → List X → List X
among front behind items = take (behind - front) (drop front items)

-- ---- changes

-- whether scripts may change items and selection
abbrev pub is_editable : Listbox → Bool
is_editable l = is_normal (option_and_then state_named (value_in l.options.values name.State))

abbrev pub new_item : List ℕ → Item
new_item text = record { text = text; is_selected = false }

-- the active item stays where some come in at a place; the first of all are before none
abbrev pub moved_on : ℕ → ℕ → ℕ → ℕ → ℕ
moved_on zero place count active = active
moved_on (suc n) place count active = if nat_le place active then active + count else active

abbrev pub put_in : ℕ → List (List ℕ) → Listbox → Listbox
put_in place texts l =
    record l { items = take place l.items ++ (map new_item texts ++ drop place l.items); active = moved_on (length l.items) place (length texts) l.active }

-- `insert`
abbrev pub inserted : ℕ → List (List ℕ) → Listbox → Listbox
inserted place texts l = if is_editable l then put_in place texts l else l

-- where the active place goes when a range is taken out of so many items: it stays on its item; where that is gone, it is
-- the next one, or the last
abbrev pub moved_back : ℕ → ℕ → ℕ → ℕ → ℕ
moved_back front behind len active =
    if nat_lt active front then active
    else (if nat_le behind active then active - (behind - front) else min front (len - (behind - front) - 1))

abbrev pub taken_out : ℕ → ℕ → Listbox → Listbox
taken_out front behind l =
    record l { items = take front l.items ++ drop behind l.items; active = moved_back front behind (length l.items) l.active }

-- `delete`: a range with no item changes nothing
abbrev pub deleted : ℕ → ℕ → Listbox → Listbox
deleted front behind l = if nat_lt front behind && is_editable l then taken_out front behind l else l

-- `activate`
abbrev pub activated : ℤ → Listbox → Listbox
activated z l = record l { active = rounded z (length l.items - 1) }

-- an item that is selected, or not
abbrev pub turned : Bool → Item → Item
turned on item = record { text = item.text; is_selected = on }

-- the items of a range turned on or off
abbrev pub turned_in : Bool → ℕ → ℕ → List Item → List Item
turned_in on front behind items = take front items ++ (map (turned on) (among front behind items) ++ drop (max front behind) items)

-- `selection set` and `selection clear`
abbrev pub selected : Bool → ℕ → ℕ → Listbox → Listbox
selected on front behind l = if is_editable l then record l { items = turned_in on front behind l.items } else l

-- ---- readings

-- the item in a place, if there is one
abbrev pub item_at : ℤ → List Item → Option Item
item_at (pos n) items = slice_get items n
item_at (negsuc n) items = None

-- the places of selected items, from a place on
abbrev pub selected_from : ℕ → List Item → List ℕ
selected_from place [] = []
selected_from place (item ∷ items) = if item.is_selected then place ∷ selected_from (suc place) items else selected_from (suc place) items
