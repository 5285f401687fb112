use Rattle.std.proofs.Common.{rules}
use Rattle.tks_bind.proofs.Noting.{none_before, one_noted, none_noted}
use Rattle.tks_bind.proofs.search.row_before.Goals.{then-behind-place, else-behind-place}
use Rattle.tks_bind.proofs.search.row_before.Goals as goal

pub loop-place-init : goal.loop-place-init
loop-place-init c = none_before c.args.earlier.now c.args.later.now c.args.history.now c.args.behind.now

pub loop-place-preserved : goal.loop-place-preserved
loop-place-preserved c =
    elim c.if-behind-place.branch [
      | then-behind-place w ↦ rw w.row-is (one_noted c.args.earlier.now c.args.later.now c.args.history.now c.args.behind.now c.loop-place.row _ c.loop-place.place (search rules) c.loop-place.invariant w.note_before.ensures)
      | else-behind-place w ↦ rw w.row-is (none_noted c.args.earlier.now c.args.later.now c.args.history.now c.args.behind.now c.loop-place.row c.loop-place.place (search rules) c.loop-place.invariant)
    ]
