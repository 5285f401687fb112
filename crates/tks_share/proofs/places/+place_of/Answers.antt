use Rattle.std.proofs.Common.{◌∙◌, ◌+◌, ap, sym, Some}
use Rattle.std.specs.Option.{option_map}
use Rattle.tks_share.proofs.AtFork.{opened}
use Rattle.tks_share.proofs.AtPlace.{whole, fits_left, left_rises, right_rises, stands_left, stands_here, stands_right}
use Rattle.tks_share.proofs.places.+place_of.Goals as goal

pub returns-in_err-behind-in-Some-clause-place : goal.returns-in_err-behind-in-Some-clause-place
returns-in_err-behind-in-Some-clause-place g t c = λ low rises.
    let number = g.T.Numbered.number_of in
    let f = c.as_ref-fork.result.now in
    let is = opened c.tree.inside.root c.in-Some.root f c.args.tree.now c.tree.view_is c.in-Some.is c.as_ref-fork.ensures in
    let here = c.number-here.ensures ∙ ap number c.get.ensures in
    let right = right_rises number c.args.number f.left f.item f.right _ is low rises in
    c.from_residual.ensures
    ∙ sym (stands_right number c.args.number f.left f.item f.right _ is low rises (rw (sym here) c.if-number-here.false) (λ e. c.if-number-here-2.false (e ∙ sym here))
    ∙ ap (option_map (λ j. _ + 1 + j)) (sym (c.place_of-else-number-here-2.ensures.place _ right) ∙ c.in_err-behind-in-Some.was))

pub returns-then-number-here-clause-place : goal.returns-then-number-here-clause-place
returns-then-number-here-clause-place g t c = λ low rises.
    let number = g.T.Numbered.number_of in
    let f = c.as_ref-fork.result.now in
    let is = opened c.tree.inside.root c.in-Some.root f c.args.tree.now c.tree.view_is c.in-Some.is c.as_ref-fork.ensures in
    let here = c.number-here.ensures ∙ ap number c.get.ensures in
    c.place_of.ensures.place low (left_rises number c.args.number f.left f.item f.right _ is low rises)
    ∙ sym (stands_left number c.args.number f.left f.item f.right _ is low rises (rw (sym here) c.if-number-here.true))

pub returns-then-number-here-2-clause-place : goal.returns-then-number-here-2-clause-place
returns-then-number-here-2-clause-place g t c = λ low rises.
    let number = g.T.Numbered.number_of in
    let f = c.as_ref-fork.result.now in
    let is = opened c.tree.inside.root c.in-Some.root f c.args.tree.now c.tree.view_is c.in-Some.is c.as_ref-fork.ensures in
    let here = c.number-here.ensures ∙ ap number c.get.ensures in
    ap (λ k. Some k) (c.count.ensures ∙ whole f.left (fits_left f.left f.item f.right _ is c.requires))
    ∙ sym (stands_here number c.args.number f.left f.item f.right _ is low rises (c.if-number-here-2.true ∙ here))

pub returns-in_ok-behind-in-Some-clause-place : goal.returns-in_ok-behind-in-Some-clause-place
returns-in_ok-behind-in-Some-clause-place g t c = λ low rises.
    let number = g.T.Numbered.number_of in
    let f = c.as_ref-fork.result.now in
    let is = opened c.tree.inside.root c.in-Some.root f c.args.tree.now c.tree.view_is c.in-Some.is c.as_ref-fork.ensures in
    let here = c.number-here.ensures ∙ ap number c.get.ensures in
    let right = right_rises number c.args.number f.left f.item f.right _ is low rises in
    ap (λ k. Some (k + 1 + c.in_ok-behind-in-Some.behind)) (c.count-else-number-here-2.ensures ∙ whole f.left (fits_left f.left f.item f.right _ is c.requires))
    ∙ sym (stands_right number c.args.number f.left f.item f.right _ is low rises (rw (sym here) c.if-number-here.false) (λ e. c.if-number-here-2.false (e ∙ sym here))
    ∙ ap (option_map (λ j. _ + 1 + j)) (sym (c.place_of-else-number-here-2.ensures.place _ right) ∙ c.in_ok-behind-in-Some.was))
