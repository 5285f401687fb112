use Rattle.std.proofs.Common.{rules, ◌≡◌, List, ℕ, ◌∷◌, sym, ap, ◌∙◌}
use Rattle.tks_pack.proofs.Reading.{goes}
use Rattle.tks_pack.proofs.options.with_options.Goals as goal

pub loop-name-preserved : goal.loop-name-preserved
loop-name-preserved c =
    let name : List ℕ = c.in-Some.name.now in
    let value : List ℕ = c.in-Some-split_first.value.now in
    let whole : c.loop-name.rest.now ≡ name ∷ value ∷ c.in-Some-split_first.behind.now =
    c.in-Some.ensures.cases.0 ∙ ap {B = List (List ℕ)} (λ r. name ∷ r) c.in-Some-split_first.ensures.cases.0 in
    sym (goes c.loop-name.settings _ name value c.in-Some-split_first.behind.now c.in_ok-settings-in-Some-split_first.ensures) ∙ rw whole at c.loop-name.invariant

pub returns-in-None : goal.returns-in-None
returns-in-None = search rules
