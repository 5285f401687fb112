use Rattle.tks_text.proofs.Integers.{stays_large}
use Rattle.tks_text.proofs.integer.value_of.Goals as goal

pub returns-in_err-value : goal.returns-in_err-value
returns-in_err-value c =
    rw c.from_residual.ensures (stays_large c.args.base c.loop-digit.value c.loop-digit.digit-index c.args.digits.now c.requires c.loop-digit-test.true c.loop-digit.invariant.so_far c.in_err-value.ensures)
