use Rattle.std.proofs.Common.{◌≡◌, ◌==◌, Some, None, sym, ap, ◌∙◌, rules, arith}
use Rattle.std.specs.Prelude.{slice_get}
use Rattle.std.proofs.lemmas.Bool.{ne_eqb, eq-eqb}
use Rattle.tks_share.proofs.InRow.{seeks_from, seeks_on, sought, none_at}
use Rattle.tks_share.proofs.row.place_of.Goals as goal

pub loop-index-init : goal.loop-index-init
loop-index-init g c = seeks_from (λ x. g.T.Numbered.number_of x == c.args.number) c.args.row.now

pub unreachable-requires : goal.unreachable-requires
unreachable-requires g c =
    let none : slice_get c.args.row.now c.loop-index.index ≡ None = search rules in
    none_at c.args.row.now c.loop-index.index none (omega (arith, c.loop-index-test.true, c.count-index-end.ensures))

pub returns-then-number-clause-place : goal.returns-then-number-clause-place
returns-then-number-clause-place g c = λ low rises.
    let number = g.T.Numbered.number_of in
    let there : slice_get c.args.row.now c.loop-index.index ≡ Some c.in-Some.item.now = search rules in
    sought (λ x. number x == c.args.number) c.args.row.now c.loop-index.index c.loop-index.invariant c.in-Some.item.now there
    (eq-eqb (number c.in-Some.item.now) c.args.number (ap number (sym c.get.ensures) ∙ sym c.number.ensures ∙ c.if-number.true))

pub loop-index-preserved : goal.loop-index-preserved
loop-index-preserved g c =
    let number = g.T.Numbered.number_of in
    let there : slice_get c.args.row.now c.loop-index.index ≡ Some c.in-Some.item.now = search rules in
    seeks_on (λ x. number x == c.args.number) c.args.row.now c.loop-index.index c.loop-index.invariant c.in-Some.item.now there
    (ne_eqb (number c.in-Some.item.now) c.args.number (λ e. c.if-number.false (c.number.ensures ∙ ap number c.get.ensures ∙ e)))
