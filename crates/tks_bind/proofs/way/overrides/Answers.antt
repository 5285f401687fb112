use Rattle.std.proofs.Common.{[], ap, ◌∙◌, arith}
use Rattle.tks_bind.specs.Ways.{overrides_to}
use Rattle.tks_bind.proofs.Turning.{turned_take}
use Rattle.tks_bind.proofs.way.overrides.Goals as goal

pub loop-place-preserved : goal.loop-place-preserved
loop-place-preserved c =
    let p = c.index-patterns-place.result in
    let q = c.index-others-place.result in
    rw (
      turned_take c.args.patterns.now c.loop-place.place p [] (omega arith) c.index-patterns-place.is,
      turned_take c.args.others.now c.loop-place.place q [] (omega arith) c.index-others-place.is,
    )
    (c.overrides_to-answer.ensures ∙ ap (overrides_to p q) c.loop-place.invariant)
