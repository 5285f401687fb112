-- The subcommands of a listbox (listbox(n), "WIDGET COMMAND").
use Rattle.std.specs.Prelude.{ℕ, suc, ◌+◌, ◌-◌, Bool, true, false, min, max, if◌then◌else◌, List, [], ◌∷◌, length, map, codes, ℤ, pos, negsuc, Option, Some, None, Result, Ok, Err}
use Rattle.std.specs.Fmt.{decimal, signed_decimal}
use Rattle.tks_text.specs.Text.{same_text}
use Rattle.tks_text.specs.Fault.{fault_about}
use Rattle.tks_text.specs.Integer.{integer_of}
use Rattle.tks_text.specs.declared.integer.Range.{Range}
use Rattle.tks_text.specs.declared.fault.ErrorNumber.TheVariants.{NotAnInteger, OutOfRange}
use Rattle.tks_text.specs.declared.fault.ScriptFault.{ScriptFault}
use Rattle.tks_list.specs.Quoting.{joined}
use Rattle.tks_opt.specs.Options.{after}
use Rattle.tks_opt.specs.Calls.{wrong_words, subcommand_does, with_subcommand}
use Rattle.tks_opt.specs.declared.said.Said.{Said}
use Rattle.tks_opt.specs.declared.said.Said.TheVariants.{Text}
use Rattle.tks_listbox.specs.Listbox.{Listbox, index_in, last_of, rounded, front_of, behind_of, among, inserted, deleted, activated, selected, item_at, selected_from}
use Rattle.tks_listbox.specs.Shown.{top, text_of}
use Rattle.tks_listbox.specs.declared.item.Item.{Item}

-- what a subcommand comes to, and the listbox that it leaves
abbrev pub Called : Type 0
Called = Result (Said × Listbox) ScriptFault

-- it answers the empty text
abbrev pub becomes : Listbox → Called
becomes l = Ok (Text [], l)

abbrev pub answers : Listbox → List ℕ → Called
answers l text = Ok (Text text, l)

-- ---- indices

-- an index whose `end` is behind the last item
abbrev pub behind_index : Listbox → List ℕ → Result ℤ ScriptFault
behind_index l word = index_in l.active (pos (length l.items)) word

-- one whose `end` is the last item
abbrev pub item_index : Listbox → List ℕ → Result ℤ ScriptFault
item_index l word = index_in l.active (last_of (length l.items)) word

-- a number of a row
abbrev pub row_read : List ℕ → Result (Option ℤ) Range → Result ℤ ScriptFault
row_read word (Ok (Some z)) = Ok z
row_read word (Ok None) = Err (fault_about NotAnInteger word)
row_read word (Err range) = Err (record { number = OutOfRange; subject = None })

-- ---- items

-- texts before the item that an index names
abbrev pub inserted_at : ℤ → List (List ℕ) → Listbox → Listbox
inserted_at z texts l = inserted (rounded z (length l.items)) texts l

abbrev pub insert_does : List ℕ → List (List ℕ) → Listbox → Called
insert_does path [] l = wrong_words path
insert_does path (index ∷ []) l = wrong_words path
insert_does path (index ∷ text ∷ texts) l = after (behind_index l index) (λ z. becomes (inserted_at z (text ∷ texts) l))

-- the items from one index to another
abbrev pub deleted_between : ℤ → ℤ → Listbox → Listbox
deleted_between first last l = deleted (front_of first) (behind_of last (length l.items)) l

abbrev pub delete_does : List ℕ → List (List ℕ) → Listbox → Called
delete_does path [] l = wrong_words path
delete_does path (index ∷ []) l = after (item_index l index) (λ z. becomes (deleted_between z z l))
delete_does path (index ∷ last ∷ []) l = after (item_index l index) (λ z. after (item_index l last) (λ y. becomes (deleted_between z y l)))
delete_does path (index ∷ last ∷ word ∷ words) l = wrong_words path

abbrev pub texts_between : ℤ → ℤ → List Item → List (List ℕ)
texts_between first last items = map (λ item. item.text) (among (front_of first) (behind_of last (length items)) items)

-- one index answers the item, and nothing where there is none; two the list of the items from one to the other
abbrev pub get_does : List ℕ → List (List ℕ) → Listbox → Called
get_does path [] l = wrong_words path
get_does path (index ∷ []) l = after (item_index l index) (λ z. answers l (text_of (item_at z l.items)))
get_does path (index ∷ last ∷ []) l = after (item_index l index) (λ z. after (item_index l last) (λ y. answers l (joined (texts_between z y l.items))))
get_does path (index ∷ last ∷ word ∷ words) l = wrong_words path

abbrev pub size_does : List ℕ → List (List ℕ) → Listbox → Called
size_does path [] l = answers l (decimal (length l.items))
size_does path (word ∷ words) l = wrong_words path

-- the number that an index names, not rounded
abbrev pub index_does : List ℕ → List (List ℕ) → Listbox → Called
index_does path [] l = wrong_words path
index_does path (index ∷ []) l = after (behind_index l index) (λ z. answers l (signed_decimal z))
index_does path (index ∷ word ∷ words) l = wrong_words path

abbrev pub activate_does : List ℕ → List (List ℕ) → Listbox → Called
activate_does path [] l = wrong_words path
activate_does path (index ∷ []) l = after (item_index l index) (λ z. becomes (activated z l))
activate_does path (index ∷ word ∷ words) l = wrong_words path

-- the item in a row of those that are seen, or the nearest one
abbrev pub nearest_to : ℤ → Listbox → ℕ
nearest_to (pos y) l = min (top l + y) (length l.items - 1)
nearest_to (negsuc y) l = min (top l - suc y) (length l.items - 1)

abbrev pub nearest_does : List ℕ → List (List ℕ) → Listbox → Called
nearest_does path [] l = wrong_words path
nearest_does path (y ∷ []) l = after (row_read y (integer_of y)) (λ z. answers l (decimal (nearest_to z l)))
nearest_does path (y ∷ word ∷ words) l = wrong_words path

-- ---- the selection

-- the items between two indices turned on or off, whichever is the greater
abbrev pub selected_between : Bool → ℤ → ℤ → Listbox → Listbox
selected_between on a b l =
    selected on (min (front_of a) (front_of b)) (max (behind_of a (length l.items)) (behind_of b (length l.items))) l

abbrev pub select_does : Bool → List ℕ → List (List ℕ) → Listbox → Called
select_does on path [] l = wrong_words path
select_does on path (index ∷ []) l = after (item_index l index) (λ z. becomes (selected_between on z z l))
select_does on path (index ∷ last ∷ []) l = after (item_index l index) (λ z. after (item_index l last) (λ y. becomes (selected_between on z y l)))
select_does on path (index ∷ last ∷ word ∷ words) l = wrong_words path

abbrev pub is_selected : Option Item → Bool
is_selected None = false
is_selected (Some item) = item.is_selected

abbrev pub truth : Bool → List ℕ
truth on = if on then codes "1" else codes "0"

abbrev pub includes_does : List ℕ → List (List ℕ) → Listbox → Called
includes_does path [] l = wrong_words path
includes_does path (index ∷ []) l = after (item_index l index) (λ z. answers l (truth (is_selected (item_at z l.items))))
includes_does path (index ∷ word ∷ words) l = wrong_words path

abbrev pub selection_does : List ℕ → List (List ℕ) → Listbox → Called
selection_does path [] l = wrong_words path
selection_does path (name ∷ words) l =
    if same_text name (codes "set") then select_does true path words l
    else (if same_text name (codes "clear") then select_does false path words l
    else (if same_text name (codes "includes") then includes_does path words l
    else wrong_words path))

-- the list of the places of selected items, rising
abbrev pub curselection_does : List ℕ → List (List ℕ) → Listbox → Called
curselection_does path [] l = answers l (joined (map decimal (selected_from 0 l.items)))
curselection_does path (word ∷ words) l = wrong_words path

-- ---- a whole command

-- those that all widgets have
abbrev pub shared_does : List ℕ → List ℕ → List (List ℕ) → Listbox → Called
shared_does path name words l = after (subcommand_does path name words l.options) (λ x. Ok (x.0, record l { options = x.1 }))

-- `nearest`, one on the selection, or one that all widgets have
abbrev pub other_does : List ℕ → List ℕ → List (List ℕ) → Listbox → Called
other_does path name words l =
    if same_text name (codes "nearest") then nearest_does path words l
    else (if same_text name (codes "selection") then selection_does path words l
    else (if same_text name (codes "curselection") then curselection_does path words l
    else shared_does path name words l))

-- a subcommand, with the words behind it
abbrev pub listbox_does : List ℕ → List ℕ → List (List ℕ) → Listbox → Called
listbox_does path name words l =
    if same_text name (codes "insert") then insert_does path words l
    else (if same_text name (codes "delete") then delete_does path words l
    else (if same_text name (codes "get") then get_does path words l
    else (if same_text name (codes "size") then size_does path words l
    else (if same_text name (codes "index") then index_does path words l
    else (if same_text name (codes "activate") then activate_does path words l
    else other_does path name words l)))))

-- the words of a whole command, the listbox's path first
abbrev pub called : Listbox → List (List ℕ) → Called
called l words = with_subcommand words (λ path name rest. listbox_does path name rest l)
