use Rattle.std.proofs.Common.{◌≡◌, ◌+◌, ◌<◌, ◌∷◌, ◌++◌, take, drop, IfOk, sym, ap, subst, ◌∙◌, arith}
use Rattle.std.proofs.lemmas.Bool.Decides.{nat_tests}
use Rattle.tks_list.specs.Quoting.{quoted, spaced, joined}
use Rattle.tks_list.proofs.Cuts.{element_at}
use Rattle.tks_list.proofs.elements.Elements.joined.Goals as goal

pub returns : goal.returns
returns c =
    let front = c.args.front in
    let elements = take c.args.behind c.args.self.now in
    let element = c.at.result.now in
    let rest = drop (front + 1) elements in
    let some : front < c.args.behind = grind (arith, nat_tests, c.requires.order, c.if-front-behind.false) in
    let here : drop front elements ≡ element ∷ rest = element_at c.args.self.now front c.args.behind element some c.requires.bound c.at.ensures.value in
    let first = c.in_ok-push_quoted.ensures ∙ ap (λ t. t ++ quoted element) c.new-text.ensures in
    let whole = c.in_ok-push_spaced.ensures ∙ ap (λ t. t ++ spaced rest) first ∙ ap joined (sym here) in
    subst (λ text. IfOk c.into_text.result (λ t. t ≡ text)) whole c.into_text.ensures
