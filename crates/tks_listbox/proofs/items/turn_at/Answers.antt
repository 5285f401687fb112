use Rattle.std.proofs.Common.{◌≡◌, ap, ◌∙◌, rules}
use Rattle.std.specs.Prelude.{slice_set}
use Rattle.tks_listbox.proofs.Among.{turned_already, turned_set}
use Rattle.tks_listbox.proofs.items.turn_at.Goals as goal

pub returns-then-item-on : goal.returns-then-item-on
returns-then-item-on c =
    let same : c.in-Some.item.now.is_selected ≡ c.args.on = search rules in
    turned_already c.args.on c.args.place c.args.items.now c.in-Some.item.now c.in-Some.ensures same

pub returns : goal.returns
returns c =
    c.in_ok-set.ensures.ok ∙ ap (slice_set c.args.items.now c.args.place) c.in_ok-turned.ensures ∙ turned_set c.args.on c.args.place c.args.items.now c.in-Some.item.now c.in-Some.ensures
