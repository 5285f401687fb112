use Rattle.std.proofs.Common.{◌<◌, length, arith, sym, ◌∙◌}
use Rattle.tks_lines.proofs.Moving.{first_moves}
use Rattle.tks_lines.proofs.index.moved.Goals as goal

pub modifiers-preserved : goal.modifiers-preserved
modifiers-preserved c =
    let lt : c.in_ok-next.taken < length c.modifiers.rest.now = c.in_ok-next.ensures.bound in
    let next = first_moves c.args.text.now c.modifiers.place c.in_ok-next.next c.in_ok-next.taken c.modifiers.rest.now (sym c.in_ok-next.ensures.value) in
    record {
      so_far = rw c.split_at.ensures.back (next ∙ c.modifiers.invariant.so_far);
      inside = c.in_ok-next.ensures.place;
      len = omega arith;
    }
