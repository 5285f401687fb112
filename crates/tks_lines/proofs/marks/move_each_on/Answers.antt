use Rattle.std.proofs.Common.{◌+◌, ◌<◌, ◌^◌, ap, ◌∙◌}
use Rattle.std.specs.Prelude.{slice_set}
use Rattle.tks_lines.specs.declared.parts.Mark.{Mark}
use Rattle.tks_lines.specs.Lines.{moved_on}
use Rattle.tks_lines.proofs.InPlace.{one_changed, this_passes}
use Rattle.tks_lines.proofs.marks.move_each_on.Goals as goal

pub loop-mark-preserved : goal.loop-mark-preserved
loop-mark-preserved c =
    let count = c.args.count in
    let i = c.loop-mark.mark-index in
    let x = c.mark-item.result in
    record {
      made = ap (slice_set c.loop-mark.marks i) c.move_on.ensures ∙ one_changed (moved_on c.args.place count) i x c.loop-mark.marks c.args.marks.now c.loop-mark-test.true c.loop-mark.invariant.made;
      small = (this_passes (λ (m : Mark). m.place + count < 2 ^ 64) i x c.args.marks.now c.loop-mark-test.true c.loop-mark.invariant.small).1;
    }
