use Rattle.std.proofs.Common.{◌+◌, ap, ◌∙◌, arith}
use Rattle.tks_listbox.specs.Listbox.{turned_in}
use Rattle.tks_listbox.proofs.Among.{turned_next}
use Rattle.tks_listbox.proofs.items.turn_each.Goals as goal

pub loop-place-preserved : goal.loop-place-preserved
loop-place-preserved c =
    let place = c.loop-place.place in
    record {
      made = c.in_ok-turn_at.ensures ∙ ap (turned_in c.args.on place (place + 1)) c.loop-place.invariant.made ∙ turned_next c.args.on c.args.front place c.args.items.now c.loop-place.auto.place (omega arith);
      none = λ h. omega arith;
    }
