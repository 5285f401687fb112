use Rattle.std.proofs.Common.{◌≡◌, ap, ◌∙◌, rules, subst, sym, FitsSigned, w64}
use Rattle.std.proofs.lemmas.Int.{to_z-of_z}
use Rattle.std.specs.Fmt.{signed_decimal}
use Rattle.tks_text.specs.Fault.{Gives}
use Rattle.tks_expr.specs.Operation.{in_decimal, binary_value, of_integers}
use Rattle.tks_expr.specs.View.{operand_text}
use Rattle.tks_expr.proofs.Conditions.{of_decimals}
use Rattle.tks_expr.proofs.Decimals.{decimal_gives}
use Rattle.tks_expr.proofs.value.apply.Goals as goal

pub returns-in-Integer-Integer : goal.returns-in-Integer-Integer
returns-in-Integer-Integer c =
    let op = c.args.operator in
    let x = c.in-Integer-Integer.left in
    let y = c.in-Integer-Integer.right in
    let left : operand_text c.args.left ≡ signed_decimal x = search rules in
    let right : operand_text c.args.right ≡ signed_decimal y = search rules in
    let h : FitsSigned w64 x = search rules in
    let k : FitsSigned w64 y = search rules in
    let value : binary_value op (operand_text c.args.left) (operand_text c.args.right) ≡ of_integers op x y
    = ap (λ t. binary_value op t (operand_text c.args.right)) left ∙ ap (binary_value op (signed_decimal x)) right ∙ of_decimals x y h k op in
    let told = rw (to_z-of_z w64 x h, to_z-of_z w64 y k) at c.binary_of_integers.ensures in
    subst (λ v. Gives signed_decimal c.binary_of_integers.result (in_decimal v)) (sym value) (decimal_gives c.binary_of_integers.result (of_integers op x y) told)
