use Rattle.std.proofs.Common.{◌+◌, ◌∙◌, ap, sym, subst}
use Rattle.tks_share.proofs.AtFork.{opened}
use Rattle.tks_share.proofs.AtPlace.{whole, fits_left, parted_left, parted_right, leading_left, leading_right}
use Rattle.tks_share.specs.Lists.{IsParted, leading}
use Rattle.tks_share.proofs.places.+partition_point.Goals as goal

pub returns-then-not-accepts-clause-place : goal.returns-then-not-accepts-clause-place
returns-then-not-accepts-clause-place g t c = λ p says parted.
    let es = c.args.tree.now in
    let f = c.as_ref-fork.result.now in
    let is = opened c.tree.inside.root c.in-Some.root f es c.tree.view_is c.in-Some.is c.as_ref-fork.ensures in
    let fails = ap p (sym c.get.ensures) ∙ sym (says c.get.result c.accepts.result c.accepts.ensures) ∙ c.if-not-accepts.true in
    c.partition_point.ensures.place p says (parted_left p f.left f.item f.right (subst (IsParted p) is parted))
    ∙ sym (ap (leading p) is ∙ leading_left p f.left f.item f.right fails)

pub returns-clause-place : goal.returns-clause-place
returns-clause-place g t c = λ p says parted.
    let es = c.args.tree.now in
    let f = c.as_ref-fork.result.now in
    let is = opened c.tree.inside.root c.in-Some.root f es c.tree.view_is c.in-Some.is c.as_ref-fork.ensures in
    let passes = ap p (sym c.get.ensures) ∙ sym (says c.get.result c.accepts.result c.accepts.ensures) ∙ c.if-not-accepts.false in
    let both = subst (IsParted p) is parted in
    (λ i. (c.count.ensures ∙ whole f.left (fits_left f.left f.item f.right es is c.requires.fits)) i + 1
    + c.partition_point-behind.ensures.place p says (parted_right p f.left f.item f.right both) i)
    ∙ sym (ap (leading p) is ∙ leading_right p f.left f.item f.right both passes)
