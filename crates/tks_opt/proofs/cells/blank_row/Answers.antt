use Rattle.std.proofs.Common.{refl}
use Rattle.tks_opt.specs.Cells.{space}
use Rattle.tks_opt.proofs.Growing.{one_more}
use Rattle.tks_opt.proofs.cells.blank_row.Goals as goal

pub loop-column-preserved : goal.loop-column-preserved
loop-column-preserved c = one_more (λ _. space) c.loop-column._column c.loop-column.cells c.push.new.self space c.loop-column.invariant c.in_ok-push.ensures.ok refl
