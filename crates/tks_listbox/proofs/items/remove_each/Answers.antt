use Rattle.std.proofs.Common.{◌≤◌, length, List, ap, ◌∙◌, arith}
use Rattle.std.specs.List.{remove}
use Rattle.tks_listbox.specs.declared.item.Item.{Item}
use Rattle.tks_listbox.proofs.Among.{one_out, some_left}
use Rattle.tks_listbox.proofs.items.remove_each.Goals as goal

pub remove-requires : goal.remove-requires
remove-requires c = rw c.loop-place.invariant (some_left c.args.front c.loop-place._place c.args.items.now (omega arith) (omega arith))

pub loop-place-preserved : goal.loop-place-preserved
loop-place-preserved c =
    let within : c.args.front ≤ length c.args.items.now = omega arith in
    c.in_ok-_item.ensures.ok ∙ ap (λ (xs : List Item). remove xs c.args.front) c.loop-place.invariant ∙ one_out c.args.front c.loop-place._place c.args.items.now within
