use Rattle.std.proofs.Common.{get_or, ap, ◌∙◌, arith}
use Rattle.std.specs.Prelude.{slice_set}
use Rattle.tks_lines.specs.Lines.{grown}
use Rattle.tks_lines.proofs.InPlace.{one_changed}
use Rattle.tks_lines.proofs.Round.{around_grown}
use Rattle.tks_lines.proofs.tags.grow_first_around.Goals as goal

pub loop-tag-preserved : goal.loop-tag-preserved
loop-tag-preserved c =
    let i = c.loop-tag.tag-index in
    let x = c.tag-item.result in
    let here = get_or c.loop-tag.tags i x in
    record {
      made = ap (slice_set c.loop-tag.tags i) (c.in-Ok.ensures.ok ∙ ap (λ b. grown c.args.place c.args.count b here) c.is_around-value.ensures)
          ∙ one_changed (around_grown c.args.place c.args.count) i x c.loop-tag.tags c.args.tags.now c.loop-tag-test.true c.loop-tag.invariant.made;
      done = omega (arith, c.loop-tag.invariant.done);
    }
