use Rattle.std.proofs.Common.{ap, ◌∙◌}
use Rattle.std.specs.Prelude.{slice_set}
use Rattle.tks_lines.specs.Lines.{shrunk}
use Rattle.tks_lines.proofs.InPlace.{one_changed}
use Rattle.tks_lines.proofs.tags.shrink_each.Goals as goal

pub loop-tag-preserved : goal.loop-tag-preserved
loop-tag-preserved c =
    let i = c.loop-tag.tag-index in
    ap (slice_set c.loop-tag.tags i) c.shrink.ensures
    ∙ one_changed (shrunk c.args.first c.args.last) i c.tag-item.result c.loop-tag.tags c.args.tags.now c.loop-tag-test.true c.loop-tag.invariant
