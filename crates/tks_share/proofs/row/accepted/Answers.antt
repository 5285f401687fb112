use Rattle.std.proofs.Common.{◌≡◌, Some, sym, ap, ◌∙◌, rules}
use Rattle.std.specs.Prelude.{slice_get}
use Rattle.tks_share.proofs.InRow.{leads_on, leads_to}
use Rattle.tks_share.proofs.row.accepted.Goals as goal

pub returns-then-not-accepts-clause-place : goal.returns-then-not-accepts-clause-place
returns-then-not-accepts-clause-place g c = λ p says.
    let there : slice_get c.args.row.now c.loop-index.index ≡ Some c.in-Some.item.now = search rules in
    leads_to p c.args.row.now c.loop-index.index (c.loop-index.invariant p says) c.in-Some.item.now there
    (ap p (sym c.get.ensures) ∙ sym (says c.get.result c.accepts.result c.accepts.ensures) ∙ c.if-not-accepts.true)

pub loop-index-preserved : goal.loop-index-preserved
loop-index-preserved g c = λ p says.
    let there : slice_get c.args.row.now c.loop-index.index ≡ Some c.in-Some.item.now = search rules in
    leads_on p c.args.row.now c.loop-index.index (c.loop-index.invariant p says) c.in-Some.item.now there
    (ap p (sym c.get.ensures) ∙ sym (says c.get.result c.accepts.result c.accepts.ensures) ∙ c.if-not-accepts.false)
