use Rattle.std.proofs.Common.{◌≡◌, ◌<◌, ◌+◌, length, Some, ap, rules, arith}
use Rattle.std.specs.Prelude.{slice_get}
use Rattle.std.proofs.lemmas.Option.{slice_get_within}
use Rattle.std.proofs.lemmas.Bool.{ltb-true}
use Rattle.tks_share.proofs.AtPlace.{below_first, above_last}
use Rattle.tks_share.proofs.row.is_beyond.Goals as goal

pub returns-then-number : goal.returns-then-number
returns-then-number g c = λ low rises less.
    let number = g.T.Numbered.number_of in
    let there : slice_get c.args.row.now 0 ≡ Some c.in-Some-Some.first.now = search rules in
    below_first number c.args.number low c.args.row.now c.in-Some-Some.first.now rises there
    (omega (arith, c.if-number.true, c.number.ensures, ap number c.get.ensures))

pub returns-else-number : goal.returns-else-number
returns-else-number g c = λ low rises less.
    let number = g.T.Numbered.number_of in
    let row = c.args.row.now in
    let i = c.saturating_sub.result in
    let first : slice_get row 0 ≡ Some c.in-Some-Some.first.now = search rules in
    let there : slice_get row i ≡ Some c.in-Some-Some.last.now = search rules in
    let many : length row ≡ i + 1 = omega (arith, slice_get_within row 0 _ first, c.saturating_sub.ensures, c.count-count.ensures) in
    let fewer : c.number-else-number.result < c.args.number = ltb-true _ _ less in
    above_last number c.args.number low row i c.in-Some-Some.last.now rises there many
    (omega (arith, fewer, c.number-else-number.ensures, ap number c.get-else-number.ensures))
