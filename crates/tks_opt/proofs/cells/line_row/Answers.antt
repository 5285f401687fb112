use Rattle.tks_opt.specs.Cells.{line_cell}
use Rattle.tks_opt.proofs.Growing.{one_more}
use Rattle.tks_opt.proofs.cells.line_row.Goals as goal

pub loop-column-preserved : goal.loop-column-preserved
loop-column-preserved c =
    one_more (line_cell c.args.line.now c.args.left) c.loop-column.column c.loop-column.cells c.push.new.self c.line_cell.result
    c.loop-column.invariant c.in_ok-push.ensures.ok c.line_cell.ensures
