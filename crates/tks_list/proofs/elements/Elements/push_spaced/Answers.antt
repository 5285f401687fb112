use Rattle.std.proofs.Common.{◌≡◌, ◌+◌, ◌∷◌, ◌++◌, take, drop, sym, ap, ◌∙◌}
use Rattle.tks_list.specs.Quoting.{quoted, spaced}
use Rattle.tks_list.proofs.Cuts.{element_at, spaced_at}
use Rattle.tks_list.proofs.elements.Elements.push_spaced.Goals as goal

pub loop-index-preserved : goal.loop-index-preserved
loop-index-preserved c =
    let i = c.loop-index.index in
    let text = c.loop-index.text in
    let element = c.at.result.now in
    let rest = drop (i + 1) (take c.args.behind c.args.self.now) in
    let here : drop i (take c.args.behind c.args.self.now) ≡ element ∷ rest = element_at c.args.self.now i c.args.behind element c.loop-index-test.true c.requires.bound c.at.ensures.value in
    ap (λ t. t ++ spaced rest) (c.in_ok-push_quoted.ensures ∙ ap (λ t. t ++ quoted element) c.in_ok-push_byte.ensures.ok)
    ∙ spaced_at text element rest ∙ ap (λ l. text ++ spaced l) (sym here) ∙ c.loop-index.invariant
