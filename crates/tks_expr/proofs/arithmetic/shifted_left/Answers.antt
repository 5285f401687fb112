use Rattle.std.proofs.Common.{◌^◌, sym, ap, ◌∙◌, subst, pos, ◌*ℤ◌, FitsSigned, to_z, of_z, to_z-of_z}
use Rattle.std.proofs.lemmas.Bool.{cond-false}
use Rattle.std.specs.Int.{w128}
use Rattle.tks_text.specs.Integer.{fits_i64}
use Rattle.tks_expr.proofs.Shifts.{far_left, near_left, factors}
use Rattle.tks_expr.proofs.arithmetic.shifted_left.Goals as goal

pub returns-then-count-ge64 : goal.returns-then-count-ge64
returns-then-count-ge64 c =
    rw c.fault_of.ensures (cond-false (fits_i64 (c.args.value *ℤ pos (2 ^ c.args.count))) _ _ (far_left c.args.value c.args.count c.if-value-eq0.false c.if-count-ge64.true))

pub overflow_mul-from : goal.overflow_mul-from
overflow_mul-from c =
    subst (FitsSigned w128) (sym (factors c.args.value c.from.result c.pow.result c.args.count c.ranges.value c.if-count-ge64.false c.from.ensures c.pow.ensures)) (near_left c.args.value c.args.count c.ranges.value c.if-count-ge64.false)

pub returns : goal.returns
returns c =
    let e = factors c.args.value c.from.result c.pow.result c.args.count c.ranges.value c.if-count-ge64.false c.from.ensures c.pow.ensures in
    let k = ap (λ z. to_z w128 (of_z w128 z)) e ∙ to_z-of_z (near_left c.args.value c.args.count c.ranges.value c.if-count-ge64.false) in
    rw k at c.in_range.ensures
