use Rattle.tks_opt.specs.Cells.{row}
use Rattle.tks_opt.proofs.Growing.{one_more}
use Rattle.tks_listbox.specs.Shown.{row_from}
use Rattle.tks_listbox.proofs.shown.rows_of.Goals as goal

pub loop-index-preserved : goal.loop-index-preserved
loop-index-preserved c =
    one_more (λ y. row (λ x. row_from c.args.items.now c.args.first x y) c.args.width) c.loop-index.index c.loop-index.cells c.push.new.self c.in_ok-row_of.field-0
    c.loop-index.invariant c.in_ok-push.ensures.ok c.in_ok-row_of.ensures
