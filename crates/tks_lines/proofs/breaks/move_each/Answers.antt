use Rattle.std.proofs.Common.{◌+◌, ◌-◌, ◌<◌, ◌^◌, length, ap, ◌∙◌, arith}
use Rattle.std.specs.Prelude.{slice_set}
use Rattle.tks_lines.proofs.InPlace.{one_changed, same_next, this_passes}
use Rattle.tks_lines.proofs.breaks.move_each.Goals as goal

pub overflow_add-place : goal.overflow_add-place
overflow_add-place c =
    let from = c.args.from in
    let to = c.args.to in
    let inside : c.loop-place.place-index < length c.args.places.now = omega arith in
    let same = same_next (λ b. b - from + to) c.loop-place.place-index 0 c.loop-place.places c.args.places.now inside c.loop-place.invariant.made in
    let small = (this_passes (λ b. b - from + to < 2 ^ 64) c.loop-place.place-index 0 c.args.places.now inside c.loop-place.invariant.small).0 in
    omega (arith, same, small)

pub loop-place-preserved : goal.loop-place-preserved
loop-place-preserved c =
    let from = c.args.from in
    let to = c.args.to in
    let inside : c.loop-place.place-index < length c.args.places.now = omega arith in
    record {
      made = ap (λ n. slice_set c.loop-place.places c.loop-place.place-index (n + to)) c.saturating_sub.ensures ∙ one_changed (λ b. b - from + to) c.loop-place.place-index 0 c.loop-place.places c.args.places.now inside c.loop-place.invariant.made;
      small = (this_passes (λ b. b - from + to < 2 ^ 64) c.loop-place.place-index 0 c.args.places.now inside c.loop-place.invariant.small).1;
    }
