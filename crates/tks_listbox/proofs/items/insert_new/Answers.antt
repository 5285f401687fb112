use Rattle.std.proofs.Common.{◌+◌, List, ap, ◌∙◌}
use Rattle.std.specs.List.{insert}
use Rattle.tks_listbox.specs.declared.item.Item.{Item}
use Rattle.tks_listbox.proofs.Among.{one_in}
use Rattle.tks_listbox.proofs.items.insert_new.Goals as goal

pub loop-index-preserved : goal.loop-index-preserved
loop-index-preserved c =
    let at = c.args.place + c.loop-index.index in
    c.in_ok-insert.ensures.ok
    ∙ ap (λ (xs : List Item). insert xs at c.in_ok-new.field-0) c.loop-index.invariant
    ∙ ap (insert _ at) c.in_ok-new.ensures
    ∙ one_in c.args.place c.loop-index.index c.args.items.now c.args.texts.now c.index-texts-index.result c.requires c.loop-index-test.true c.index-texts-index.is
