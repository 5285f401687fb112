use Rattle.std.proofs.Common.{◌≡◌, ap, ◌∙◌, rules, subst, sym, FitsSigned, w64}
use Rattle.std.proofs.lemmas.Int.{to_z-of_z}
use Rattle.std.specs.Fmt.{signed_decimal}
use Rattle.tks_text.specs.Fault.{Gives}
use Rattle.tks_expr.specs.Operation.{in_decimal, unary_value, of_integer}
use Rattle.tks_expr.specs.View.{operand_text}
use Rattle.tks_expr.proofs.Conditions.{of_decimal}
use Rattle.tks_expr.proofs.Decimals.{decimal_gives}
use Rattle.tks_expr.proofs.value.apply_unary.Goals as goal

pub returns-in-Integer : goal.returns-in-Integer
returns-in-Integer c =
    let op = c.args.operator in
    let x = c.in-Integer.integer in
    let text : operand_text c.args.operand ≡ signed_decimal x = search rules in
    let h : FitsSigned w64 x = search rules in
    let value : unary_value op (operand_text c.args.operand) ≡ of_integer op x = ap (unary_value op) text ∙ of_decimal x h op in
    let told = rw (to_z-of_z w64 x h) at c.unary_of_integer.ensures in
    subst (λ v. Gives signed_decimal c.unary_of_integer.result (in_decimal v)) (sym value) (decimal_gives c.unary_of_integer.result (of_integer op x) told)
