use Rattle.std.proofs.Common.{◌≡◌, ◌<◌, ◌≤◌, List, ◌++◌, length, take, drop, sym, ap, subst, ◌∙◌, rules}
use Rattle.tks_listbox.specs.Listbox.{Listbox, HasActive, moved_back}
use Rattle.tks_listbox.specs.declared.item.Item.{Item}
use Rattle.tks_listbox.proofs.Enclosing.{around_less, active_back}
use Rattle.tks_listbox.proofs.listbox.ListWidget.delete.Goals as goal

pub invariant_of-self : goal.invariant_of-self
invariant_of-self c =
    let l = c.self.inside in
    let front = c.args.front in
    let behind = c.args.behind in
    let new : List Item = c.remove_among.new.items in
    let same : ◌≡◌ {A = Listbox} (record { options = l.options; items = l.items; active = l.active }) c.args.self.now = c.self.view_is in
    let some : front < behind = search rules in
    let within : behind ≤ length l.items = subst (λ (w : Listbox). behind ≤ length w.items) (sym same) c.requires in
    let left = c.in_ok-remove_among.ensures ∙ ap (λ (items : List Item). take front items ++ drop behind items) c.in_ok-items.ensures in
    let active =
    c.moved_back-self-inside.ensures
    ∙ ap (λ n. moved_back front behind n l.active) (c.len-len.ensures.value ∙ ap (λ (w : Listbox). length w.items) (sym same)) in (
      c.self.invariant.0,
      subst (HasActive new) (sym active) (active_back front behind l.active l.items new some within left c.self.invariant.1),
      around_less front behind l.items new l.bounds c.go_out-self-inside.result some within left c.go_out-self-inside.ensures c.self.invariant.2,
    )
