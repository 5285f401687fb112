use Rattle.std.proofs.Common.{◌≡◌, ◌≤◌, ℕ, List, ◌++◌, length, take, drop, map, sym, ap, subst, ◌∙◌}
use Rattle.tks_listbox.specs.Listbox.{Listbox, HasActive, new_item, moved_on}
use Rattle.tks_listbox.specs.declared.item.Item.{Item}
use Rattle.tks_listbox.proofs.Enclosing.{around_more, active_on}
use Rattle.tks_listbox.proofs.listbox.ListWidget.insert.Goals as goal

pub invariant_of-self : goal.invariant_of-self
invariant_of-self c =
    let l = c.self.inside in
    let place = c.args.place in
    let texts : List (List ℕ) = c.args.texts.now in
    let new : List Item = c.insert_new.new.items in
    let same : ◌≡◌ {A = Listbox} (record { options = l.options; items = l.items; active = l.active }) c.args.self.now = c.self.view_is in
    let within : place ≤ length l.items = subst (λ (w : Listbox). place ≤ length w.items) (sym same) c.requires in
    let grown = c.in_ok-insert_new.ensures ∙ ap (λ (items : List Item). take place items ++ (map new_item texts ++ drop place items)) c.in_ok-items.ensures in
    let active =
    c.moved_on-self-inside.ensures
    ∙ ap (λ n. moved_on n place (length texts) c.active.result) (c.len-len.ensures.value ∙ ap (λ (w : Listbox). length w.items) (sym same))
    ∙ ap (moved_on (length l.items) place (length texts)) (c.active.ensures.value ∙ ap (λ (w : Listbox). w.active) (sym same)) in (
      c.self.invariant.0,
      subst (HasActive new) (sym active) (active_on place l.active texts l.items new within grown c.self.invariant.1),
      around_more place texts l.items new l.bounds c.come_in-self-inside.result within grown c.come_in-self-inside.ensures c.self.invariant.2,
    )
