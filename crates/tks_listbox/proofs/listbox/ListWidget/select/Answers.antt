use Rattle.std.proofs.Common.{◌≡◌, ◌≤◌, List, length, sym, ap, subst, ◌∙◌}
use Rattle.tks_listbox.specs.Listbox.{Listbox, turned_in}
use Rattle.tks_listbox.specs.declared.item.Item.{Item}
use Rattle.tks_listbox.proofs.Enclosing.{around_turned, active_there}
use Rattle.tks_listbox.proofs.listbox.ListWidget.select.Goals as goal

pub invariant_of-self : goal.invariant_of-self
invariant_of-self c =
    let l = c.self.inside in
    let on = c.args.on in
    let front = c.args.front in
    let behind = c.args.behind in
    let new : List Item = c.turn_among.new.items in
    let same : ◌≡◌ {A = Listbox} (record { options = l.options; items = l.items; active = l.active }) c.args.self.now = c.self.view_is in
    let within : behind ≤ length l.items = subst (λ (w : Listbox). behind ≤ length w.items) (sym same) c.requires in
    let turned = c.in_ok-turn_among.ensures ∙ ap (turned_in on front behind) c.in_ok-items.ensures in (
      c.self.invariant.0,
      active_there on front behind l.active l.items new within turned c.self.invariant.1,
      around_turned on front behind l.items new l.bounds c.turned_range-self-inside.result within turned c.turned_range-self-inside.ensures c.self.invariant.2,
    )
