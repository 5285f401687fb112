use Rattle.std.proofs.Common.{ap, ◌∙◌}
use Rattle.tks_opt.specs.Cells.{line_cell, row}
use Rattle.tks_opt.proofs.Growing.{one_more}
use Rattle.tks_button.specs.Block.{lines, line_in_row, block_cell}
use Rattle.tks_button.proofs.block.block_rows.Goals as goal

pub loop-row-preserved : goal.loop-row-preserved
loop-row-preserved c =
    one_more (λ y. row (λ x. block_cell (lines c.args.text.now) c.args.anchor c.args.width c.args.height x y) c.args.width) c.loop-row.row c.loop-row.cells c.push.new.self c.in_ok-line_row.field-0
    c.loop-row.invariant c.in_ok-push.ensures.ok
    (c.in_ok-line_row.ensures
    ∙ ap (λ line. row (line_cell line c.left_of-left.result) c.args.width) c.line_in_row-line.ensures
    ∙ (λ i. row (line_cell (line_in_row (lines c.args.text.now) (c.top_of-top.ensures i) c.loop-row.row) (c.left_of-left.ensures i)) c.args.width))
