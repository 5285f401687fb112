use Rattle.tks_opt.specs.Cells.{space, row}
use Rattle.tks_opt.proofs.Growing.{one_more}
use Rattle.tks_opt.proofs.cells.blank_rows.Goals as goal

pub loop-row-preserved : goal.loop-row-preserved
loop-row-preserved c =
    one_more (λ _. row (λ _. space) c.args.width) c.loop-row._row c.loop-row.cells c.push.new.self c.in_ok-blank_row.field-0
    c.loop-row.invariant c.in_ok-push.ensures.ok c.in_ok-blank_row.ensures
