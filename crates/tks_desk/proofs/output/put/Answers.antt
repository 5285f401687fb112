use Rattle.std.proofs.Common.{refl, arith, length-drop}
use Rattle.std.proofs.lemmas.List.{take_rest}
use Rattle.tks_desk.proofs.Writes.{front, more, cut_off}
use Rattle.tks_desk.proofs.output.put.Goals as goal

pub returns-in_err-done : goal.returns-in_err-done
returns-in_err-done g c =
    cut_off _ _ _ _ _ c.args.bytes.now c.loop.done c.from_residual.ensures.1 c.in_err-done.ensures.err.0 c.loop.invariant.1 c.in_err-done.ensures.err.1

pub loop-preserved : goal.loop-preserved
loop-preserved g c =
    let taken = c.in_ok-done.ensures in (
      omega (arith, simp (take_rest, length-drop) at taken.bound),
      more _ _ _ c.args.bytes.now c.loop.done c.in_ok-done.field-0 c.loop.invariant.1 (rw take_rest at taken.ok),
    )

pub returns : goal.returns
returns g c = (refl, front _ _ c.args.bytes.now c.loop.done c.loop.invariant.1)
