use Rattle.std.proofs.Common.{◌≡◌, ap, ◌∙◌, rules, Ok, Some, FitsSigned, w64}
use Rattle.std.proofs.lemmas.Int.{to_z-of_z}
use Rattle.std.specs.Fmt.{signed_decimal}
use Rattle.tks_text.proofs.Decimals.{decimal_of_an_integer}
use Rattle.tks_text.proofs.integer.integer_of.Goals as goal

pub returns-in-Some : goal.returns-in-Some
returns-in-Some c =
    let z = c.in-Some.integer in
    let h : FitsSigned w64 z = search rules in
    let is : c.args.text.now ≡ signed_decimal z = search rules in
    ap (λ x. Ok (Some x)) (to_z-of_z w64 z h) ∙ decimal_of_an_integer c.args.text.now z is h
