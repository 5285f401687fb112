use Rattle.std.proofs.Common.{rules, ◌≡◌, ◌∷◌, ◌+◌, drop, Some, ap, sym, subst, ◌∙◌, arith}
use Rattle.std.specs.List.{filter}
use Rattle.tks_bind.specs.Choosing.{scene_of}
use Rattle.tks_bind.specs.Endings.{named, is_under}
use Rattle.tks_bind.specs.Passes.{trial_of, trials_by, trials_through, latest}
use Rattle.tks_bind.specs.Tried.{all_tried}
use Rattle.tks_bind.proofs.Members.{drop_next}
use Rattle.tks_bind.proofs.Passing.{latest_append}
use Rattle.tks_bind.proofs.passes.Passes.latest_through.Goals as goal

pub loop-held-preserved : goal.loop-held-preserved
loop-held-preserved c =
    let s = scene_of c.args.self.now.scene in
    let all = all_tried c.args.self.now in
    let top = trial_of c.args.top in
    let u = c.get-through.result.now in
    let at_held = drop_next c.args.sequences.now c.loop-held.held-index c.held-item.result (omega arith) c.held-item.is in
    let more = subst (λ x. drop c.loop-held.held-index c.args.sequences.now ≡ x ∷ drop (c.loop-held.held-index + 1) c.args.sequences.now) (sym c.get-through.ensures) at_held in
    let bindings : c.named-bindings.result.now ≡ filter (is_under s.tag (named u.name)) s.bindings = search rules in
    let so_far = ap (λ o. latest s all top o (trials_through s (drop (c.loop-held.held-index + 1) c.args.sequences.now))) (rw (← bindings) c.latest_by-latest.ensures) in
    so_far
    ∙ (sym (latest_append s all top (trial_of c.loop-held.latest) (trials_by (Some u.sequence) (filter (is_under s.tag (named u.name)) s.bindings)) (trials_through s (drop (c.loop-held.held-index + 1) c.args.sequences.now)))
    ∙ (ap (λ us. latest s all top (trial_of c.loop-held.latest) (trials_through s us)) (sym more) ∙ c.loop-held.invariant))
