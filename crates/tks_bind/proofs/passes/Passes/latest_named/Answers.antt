use Rattle.std.proofs.Common.{rules, ◌≡◌, ◌∷◌, ap, sym, ◌∙◌}
use Rattle.tks_bind.specs.Choosing.{scene_of}
use Rattle.tks_bind.specs.Passes.{trial_of, trials_through, latest}
use Rattle.tks_bind.specs.Tagged.{all_listed}
use Rattle.tks_bind.specs.Tried.{all_tried}
use Rattle.tks_bind.proofs.Passing.{latest_behind}
use Rattle.tks_bind.proofs.passes.Passes.latest_named.Goals as goal

pub loop-name-preserved : goal.loop-name-preserved
loop-name-preserved c =
    let s = scene_of c.args.self.now.scene in
    let all = all_tried c.args.self.now in
    let top = trial_of c.args.top in
    let list = c.in-Some.sequences.now in
    let rest = c.next.new.self in
    let steps : c.loop-name._name-iterator ≡ (c.in-Some._name.now, list) ∷ rest = search rules in
    let now = c.latest_through-latest.ensures ∙ ap (λ ts. latest s all top (trial_of c.loop-name.latest) (trials_through s ts)) c.as_slice.ensures.value in
    ap (λ o. latest s all top o (trials_through s (all_listed rest))) now
    ∙ sym (latest_behind s all top (trial_of c.loop-name.latest) list (all_listed rest))
    ∙ ap (λ es. latest s all top (trial_of c.loop-name.latest) (trials_through s (all_listed es))) (sym steps)
    ∙ c.loop-name.invariant
