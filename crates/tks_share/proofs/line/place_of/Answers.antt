use Rattle.std.proofs.Common.{◌+◌, ◌++◌, ◌==◌, Some, sym, ap, subst, ◌∙◌, arith}
use Rattle.std.specs.List.{position}
use Rattle.std.specs.Option.{option_map}
use Rattle.tks_share.specs.Lists.{Rises}
use Rattle.tks_share.proofs.AtPlace.{rises_left, rises_behind, not_before, stands_first, stands_behind}
use Rattle.tks_share.proofs.InLine.{between}
use Rattle.tks_share.proofs.line.place_of.Goals as goal

pub returns-in-Some-clause-place : goal.returns-in-Some-clause-place
returns-in-Some-clause-place g c = λ low rises.
    let number = g.T.Numbered.number_of in
    let n = c.args.number in
    let f = c.line.inside.front in
    let r = c.line.inside.middle ++ c.line.inside.back in
    let all = subst (Rises number low) (sym c.line.view_is) rises in
    sym (stands_first number n c.in-Some.place f r (sym (c.place_of.ensures.place low (rises_left number low f r all)) ∙ c.in-Some.is))
    ∙ ap (position (λ x. number x == n)) c.line.view_is

pub returns-in-Some-place_of-clause-place : goal.returns-in-Some-place_of-clause-place
returns-in-Some-place_of-clause-place g c = λ low rises.
    let number = g.T.Numbered.number_of in
    let n = c.args.number in
    let f = c.line.inside.front in
    let m = c.line.inside.middle in
    let b = c.line.inside.back in
    let all = subst (Rises number low) (sym c.line.view_is) rises in
    let rest = rises_behind number n low f (m ++ b) all in
    let ahead = sym (c.place_of.ensures.place low (rises_left number low f (m ++ b) all)) ∙ c.in_default.is in
    let behind = sym (c.place_of-2.ensures.place low (rises_behind number n low m b rest)) ∙ c.in-Some-place_of.is in
    let none = not_before number n low c.in-Some-place_of.place m b rest behind in
    ap (λ k. Some k) (omega (arith, c.count-ahead.ensures, c.count.ensures, between f m b _ (sym c.line.view_is) c.requires))
    ∙ ap (option_map (λ j. _ + j)) (ap (option_map (λ j. _ + j)) (sym behind) ∙ sym (stands_behind number n m b none))
    ∙ sym (stands_behind number n f (m ++ b) ahead)
    ∙ ap (position (λ x. number x == n)) c.line.view_is

pub returns-in_err-between-clause-place : goal.returns-in_err-between-clause-place
returns-in_err-between-clause-place g c = λ low rises.
    let number = g.T.Numbered.number_of in
    let n = c.args.number in
    let f = c.line.inside.front in
    let m = c.line.inside.middle in
    let b = c.line.inside.back in
    let all = subst (Rises number low) (sym c.line.view_is) rises in
    let rest = rises_behind number n low f (m ++ b) all in
    let ahead = sym (c.place_of.ensures.place low (rises_left number low f (m ++ b) all)) ∙ c.in_default.is in
    let behind = sym (c.place_of-2.ensures.place low (rises_behind number n low m b rest)) ∙ c.in_default-place_of.is in
    let none = sym (c.place_of-3.ensures.place low (rises_left number low m b rest)) ∙ c.in_err-between.was in
    c.from_residual.ensures
    ∙ ap (option_map (λ j. _ + j)) (ap (option_map (λ j. _ + j)) (sym behind) ∙ sym (stands_behind number n m b none))
    ∙ sym (stands_behind number n f (m ++ b) ahead)
    ∙ ap (position (λ x. number x == n)) c.line.view_is

pub returns-clause-place : goal.returns-clause-place
returns-clause-place g c = λ low rises.
    let number = g.T.Numbered.number_of in
    let n = c.args.number in
    let f = c.line.inside.front in
    let m = c.line.inside.middle in
    let b = c.line.inside.back in
    let all = subst (Rises number low) (sym c.line.view_is) rises in
    let rest = rises_behind number n low f (m ++ b) all in
    let ahead = sym (c.place_of.ensures.place low (rises_left number low f (m ++ b) all)) ∙ c.in_default.is in
    let found = sym (c.place_of-3.ensures.place low (rises_left number low m b rest)) ∙ c.in_ok-between.was in
    ap (λ k. Some (k + c.in_ok-between.between)) c.count-ahead.ensures
    ∙ ap (option_map (λ j. _ + j)) (sym (stands_first number n c.in_ok-between.between m b found))
    ∙ sym (stands_behind number n f (m ++ b) ahead)
    ∙ ap (position (λ x. number x == n)) c.line.view_is
