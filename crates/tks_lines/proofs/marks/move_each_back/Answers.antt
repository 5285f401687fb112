use Rattle.std.proofs.Common.{ap, ◌∙◌}
use Rattle.std.specs.Prelude.{slice_set}
use Rattle.tks_lines.specs.Lines.{moved_back}
use Rattle.tks_lines.proofs.InPlace.{one_changed}
use Rattle.tks_lines.proofs.marks.move_each_back.Goals as goal

pub loop-mark-preserved : goal.loop-mark-preserved
loop-mark-preserved c =
    let i = c.loop-mark.mark-index in
    ap (slice_set c.loop-mark.marks i) c.move_back.ensures
    ∙ one_changed (moved_back c.args.first c.args.last) i c.mark-item.result c.loop-mark.marks c.args.marks.now c.loop-mark-test.true c.loop-mark.invariant
