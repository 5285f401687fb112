use Rattle.std.proofs.Common.{ap, ◌∙◌}
use Rattle.std.specs.Prelude.{slice_set}
use Rattle.tks_lines.specs.Lines.{put_at}
use Rattle.tks_lines.proofs.InPlace.{one_changed}
use Rattle.tks_lines.proofs.marks.put_each_at.Goals as goal

pub loop-mark-preserved : goal.loop-mark-preserved
loop-mark-preserved c =
    let i = c.loop-mark.mark-index in
    ap (slice_set c.loop-mark.marks i) c.put_at.ensures
    ∙ one_changed (put_at c.args.name.now c.args.place) i c.mark-item.result c.loop-mark.marks c.args.marks.now c.loop-mark-test.true c.loop-mark.invariant
