use Rattle.std.proofs.Common.{◌∷◌, ◌++◌, ◌∙◌, ap, sym}
use Rattle.tks_share.proofs.AtFork.{opened, if_ok_through}
use Rattle.tks_share.proofs.AtPlace.{fits_left, fits_right, passed_over, let_through, unchanged}
use Rattle.tks_share.proofs.places.+kept.Goals as goal

pub returns-then-not-keep-clause-filtered : goal.returns-then-not-keep-clause-filtered
returns-then-not-keep-clause-filtered g t c =
    let es = c.args.tree.now in
    let f = c.as_ref-fork.result.now in
    let is = opened c.tree.inside.root c.in-Some.root f es c.tree.view_is c.in-Some.is c.as_ref-fork.ensures in
    if_ok_through _ _ c.appended.result (λ now told fits p says.
    told
    ∙ passed_over p f.left f.item f.right es is (ap p (sym c.get.ensures) ∙ sym (says c.get.result c.keep.result c.keep.ensures) ∙ c.if-not-keep.true) _ _
    (c.in_ok-left.ensures.filtered (fits_left f.left f.item f.right es is fits) p says)
    (c.in_ok-right.ensures.filtered (fits_right f.left f.item f.right es is fits) p says)) c.appended.ensures

pub returns-then-count-2-clause-filtered : goal.returns-then-count-2-clause-filtered
returns-then-count-2-clause-filtered g t c =
    let es = c.args.tree.now in
    let f = c.as_ref-fork.result.now in
    let is = opened c.tree.inside.root c.in-Some.root f es c.tree.view_is c.in-Some.is c.as_ref-fork.ensures in
    if_ok_through _ _ c.share.result (λ now told fits p says.
    told
    ∙ unchanged p f.left f.item f.right es is fits (ap p (sym c.get.ensures) ∙ sym (says c.get.result c.keep.result c.keep.ensures) ∙ c.if-not-keep.false) _ _
    (c.in_ok-left.ensures.filtered (fits_left f.left f.item f.right es is fits) p says)
    (c.in_ok-right.ensures.filtered (fits_right f.left f.item f.right es is fits) p says)
    (sym c.count.ensures ∙ c.if-count.true ∙ c.count-2.ensures)
    (sym c.count-then-count.ensures ∙ c.if-count-2.true ∙ c.count-then-count-2.ensures)) c.share.ensures

pub returns-clause-filtered : goal.returns-clause-filtered
returns-clause-filtered g t c =
    let es = c.args.tree.now in
    let f = c.as_ref-fork.result.now in
    let is = opened c.tree.inside.root c.in-Some.root f es c.tree.view_is c.in-Some.is c.as_ref-fork.ensures in
    if_ok_through _ _ c.joined.result (λ now told fits p says.
    told
    ∙ ap (λ l. l ++ c.in_ok-share.field-0 ∷ c.in_ok-right.right) c.left.view_is
    ∙ ap (λ x. c.in_ok-left.left ++ x ∷ c.in_ok-right.right) c.in_ok-share.ensures
    ∙ let_through p f.left f.item f.right es is (ap p (sym c.get.ensures) ∙ sym (says c.get.result c.keep.result c.keep.ensures) ∙ c.if-not-keep.false) _ _
    (c.in_ok-left.ensures.filtered (fits_left f.left f.item f.right es is fits) p says)
    (c.in_ok-right.ensures.filtered (fits_right f.left f.item f.right es is fits) p says)) c.joined.ensures
