use Rattle.std.proofs.Common.{arith, ◌<ℤ◌, pos}
use Rattle.std.proofs.lemmas.Int.{ints}
use Rattle.tks_expr.proofs.Wide.{wide}
use Rattle.tks_expr.proofs.Divisions.{by_negative_128}
use Rattle.tks_expr.proofs.arithmetic.remainder.Goals as goal

pub returns-then-right-lt0 : goal.returns-then-right-lt0
returns-then-right-lt0 c =
    let e = wide c.args.right c.from-right.result c.ranges.right c.from-right.ensures in
    let below : c.args.right <ℤ pos 0 = omega (arith, ints) in
    by_negative_128 c.args.left c.args.right c.from-left.result c.from-right.result c.rem_euclid.result c.ranges.left c.ranges.right c.from-left.ensures c.from-right.ensures below (record { sfits = c.rem_euclid.type_inv }) c.rem_euclid.ensures.lower_bound c.rem_euclid.ensures.value
