use Rattle.std.proofs.Common.{rules, ◌≡◌, ◌∷◌, ap, sym, ◌∙◌}
use Rattle.tks_bind.specs.Choosing.{scene_of}
use Rattle.tks_bind.specs.Passes.{trial_in, trials_through, highest}
use Rattle.tks_bind.specs.Tagged.{all_listed}
use Rattle.tks_bind.proofs.Passing.{highest_behind}
use Rattle.tks_bind.proofs.passes.Passes.highest_named.Goals as goal

pub loop-name-preserved : goal.loop-name-preserved
loop-name-preserved c =
    let s = scene_of c.args.self.now.scene in
    let list = c.in-Some.sequences.now in
    let rest = c.next.new.self in
    let steps : c.loop-name._name-iterator ≡ (c.in-Some._name.now, list) ∷ rest = search rules in
    let now = c.highest_through-highest.ensures ∙ ap (λ ts. highest s (trial_in c.loop-name.highest) (trials_through s ts)) c.as_slice.ensures.value in
    ap (λ o. highest s o (trials_through s (all_listed rest))) now
    ∙ sym (highest_behind s (trial_in c.loop-name.highest) list (all_listed rest))
    ∙ ap (λ es. highest s (trial_in c.loop-name.highest) (trials_through s (all_listed es))) (sym steps)
    ∙ c.loop-name.invariant
