use Rattle.std.proofs.Common.{ap, ◌∙◌}
use Rattle.std.specs.Prelude.{slice_set}
use Rattle.tks_lines.specs.Lines.{turned}
use Rattle.tks_lines.proofs.InPlace.{one_changed}
use Rattle.tks_lines.proofs.marks.turn_each.Goals as goal

pub loop-mark-preserved : goal.loop-mark-preserved
loop-mark-preserved c =
    let i = c.loop-mark.mark-index in
    ap (slice_set c.loop-mark.marks i) c.turn.ensures
    ∙ one_changed (turned c.args.name.now c.args.left) i c.mark-item.result c.loop-mark.marks c.args.marks.now c.loop-mark-test.true c.loop-mark.invariant
