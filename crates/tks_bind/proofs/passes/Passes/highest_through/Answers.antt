use Rattle.std.proofs.Common.{rules, ◌≡◌, ◌∷◌, ◌+◌, drop, Some, ap, sym, subst, ◌∙◌, arith}
use Rattle.std.specs.List.{filter}
use Rattle.tks_bind.specs.Choosing.{scene_of}
use Rattle.tks_bind.specs.Endings.{named, is_under}
use Rattle.tks_bind.specs.Passes.{trial_in, trials_by, trials_through, highest}
use Rattle.tks_bind.proofs.Members.{drop_next}
use Rattle.tks_bind.proofs.Passing.{highest_append}
use Rattle.tks_bind.proofs.passes.Passes.highest_through.Goals as goal

pub loop-held-preserved : goal.loop-held-preserved
loop-held-preserved c =
    let s = scene_of c.args.self.now.scene in
    let u = c.get-through.result.now in
    let at_held = drop_next c.args.sequences.now c.loop-held.held-index c.held-item.result (omega arith) c.held-item.is in
    let more = subst (λ x. drop c.loop-held.held-index c.args.sequences.now ≡ x ∷ drop (c.loop-held.held-index + 1) c.args.sequences.now) (sym c.get-through.ensures) at_held in
    let bindings : c.named-bindings.result.now ≡ filter (is_under s.tag (named u.name)) s.bindings = search rules in
    let so_far = ap (λ o. highest s o (trials_through s (drop (c.loop-held.held-index + 1) c.args.sequences.now))) (rw (← bindings) c.highest_by-highest.ensures) in
    so_far
    ∙ (sym (highest_append s (trial_in c.loop-held.highest) (trials_by (Some u.sequence) (filter (is_under s.tag (named u.name)) s.bindings)) (trials_through s (drop (c.loop-held.held-index + 1) c.args.sequences.now)))
    ∙ (ap (λ us. highest s (trial_in c.loop-held.highest) (trials_through s us)) (sym more) ∙ c.loop-held.invariant))
