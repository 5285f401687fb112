use Rattle.std.proofs.Common.{◌≡◌, Some, sym, ap, ◌∙◌, rules, arith}
use Rattle.std.specs.Prelude.{slice_get}
use Rattle.std.proofs.lemmas.Bool.{eqb-true}
use Rattle.tks_share.proofs.AtPlace.{stands_at}
use Rattle.tks_share.proofs.row.is_last.Goals as goal

pub returns-in-Some-clause-place : goal.returns-in-Some-clause-place
returns-in-Some-clause-place g c = λ low rises same.
    let number = g.T.Numbered.number_of in
    let row = c.args.row.now in
    let i = c.saturating_sub.result in
    let there : slice_get row i ≡ Some c.in-Some.last.now = search rules in
    let is : number c.in-Some.last.now ≡ c.args.number = ap number (sym c.get.ensures) ∙ sym c.number.ensures ∙ eqb-true _ _ same in
    stands_at number c.args.number low i row c.in-Some.last.now rises there is
    ∙ ap (λ j. Some j) (omega (arith, c.saturating_sub.ensures, c.count.ensures))
