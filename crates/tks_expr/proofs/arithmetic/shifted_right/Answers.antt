use Rattle.tks_expr.proofs.Shifts.{to_the_right}
use Rattle.tks_expr.proofs.arithmetic.shifted_right.Goals as goal

pub returns : goal.returns
returns c = to_the_right c.args.value c.args.count c.min.result c.ranges.value c.min.ensures
