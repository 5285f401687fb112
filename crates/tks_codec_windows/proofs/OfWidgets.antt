-- What holds of the spellings of what widgets hold.
use Rattle.std.proofs.Common.{ℕ, ◌<◌, ◌^◌, Bool, true, false, List, length, refl, ap, arith}
use Rattle.std.specs.Int.{w32}
use Rattle.std.proofs.lemmas.Bool.Decides.{nat_tests}
use Rattle.tks_opt.specs.Options.{Options}
use Rattle.tks_entry.specs.Entry.{Entry}
use Rattle.tks_listbox.specs.Listbox.{Listbox, HasActive, has_active}
use Rattle.tks_listbox.specs.declared.item.Item.{Item}
use Rattle.tks_spelling.specs.Spelling.{Lawful, number, flag, text, list, such_that}
use Rattle.tks_spelling.proofs.EachKind.{wide32, number_lawful, test_lawful, field_lawful, through_lawful, flag_lawful, text_lawful, list_lawful}
use Rattle.tks_codec_windows.specs.Entry.{entry}
use Rattle.tks_codec_windows.specs.Listbox.{item, listbox}

pub entry_lawful : (options : Options) → Lawful (entry options)
entry_lawful options =
    field_lawful (λ e. e.text) _ _ (λ t e k h. ap (λ (e : Entry). e.text) h.1) text_lawful (λ t.
    through_lawful (λ e. e.cursor) _ _ (λ cursor k. refl) (number_lawful w32 wide32))

pub entry_legal : (e : Entry) → text.Legal e.text → e.cursor < 2 ^ 32 → (entry e.options).Legal e
entry_legal e chars small = (chars, (small, refl))

pub item_lawful : Lawful item
item_lawful =
    field_lawful (λ i. i.text) _ _ (λ t i k h. ap (λ (i : Item). i.text) h.1) text_lawful (λ t.
    through_lawful (λ i. i.is_selected) _ _ (λ is_selected k. refl) flag_lawful)

flag_legal : (b : Bool) → flag.Legal b
flag_legal true = ((omega arith, refl), refl)
flag_legal false = ((omega arith, refl), refl)

pub item_legal : (i : Item) → text.Legal i.text → item.Legal i
item_legal i chars = (chars, (flag_legal i.is_selected, refl))

active_lawful : (items : List Item) → Lawful (such_that (has_active items) (number w32))
active_lawful items = test_lawful (has_active items) (number w32) (λ v h. omega arith) (number_lawful w32 wide32)

pub listbox_lawful : (options : Options) → Lawful (listbox options)
listbox_lawful options =
    field_lawful (λ l. l.items) _ _ (λ items l k h. ap (λ (l : Listbox). l.items) h.1) (list_lawful (λ before. item) (λ before. item_lawful)) (λ items.
    through_lawful (λ l. l.active) _ _ (λ active k. refl) (active_lawful items))

pub small_active : (items : List Item) (active : ℕ) → length items < 2 ^ 32 → HasActive items active → active < 2 ^ 32
small_active items active few h = omega (arith, few, h)

pub listbox_legal : (l : Listbox) → HasActive l.items l.active → (list item).Legal l.items → (listbox l.options).Legal l
listbox_legal l active items = (items, ((omega (arith, active, items.0), grind (arith, nat_tests)), refl))
