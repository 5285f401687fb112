-- What a listbox holds besides its options, as bytes (this project's own format).
use Rattle.std.specs.Int.{w32}
use Rattle.tks_opt.specs.Options.{Options}
use Rattle.tks_listbox.specs.Listbox.{Listbox, has_active}
use Rattle.tks_listbox.specs.declared.item.Item.{Item}
use Rattle.tks_spelling.specs.Spelling.{Spelling, number, text, flag, list, such_that, field, through}

-- an item: its text, and whether it is selected
abbrev pub item : Spelling Item
item =
    field (λ i. i.text) text (λ t.
    through (λ i. i.is_selected) (λ is_selected. record { text = t; is_selected = is_selected }) flag)

-- of a listbox with these options the items, and the place of the active one, one of them; 0 where there is none
abbrev pub listbox : Options → Spelling Listbox
listbox options =
    field (λ l. l.items) (list item) (λ items.
    through (λ l. l.active) (λ active. record { options = options; items = items; active = active }) (such_that (has_active items) (number w32)))
