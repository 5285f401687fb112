use Rattle.std.proofs.Common.{◌++◌, ◌∷◌, [], append_assoc, ap, ◌∙◌, false, true}
use Rattle.tks_event.specs.Sequences.{near_ones}
use Rattle.tks_event.specs.View.{pattern_seen, standing}
use Rattle.tks_event.proofs.Collecting.{near_more}
use Rattle.tks_event.proofs.collected.push_near.Goals as goal

pub loop-done-preserved : goal.loop-done-preserved
loop-done-preserved c =
    let p = standing false (pattern_seen c.args.written.now) in
    c.in_ok-push.ensures.ok
    ∙ ap (λ x. c.loop-done.patterns.items ++ x ∷ []) c.in_ok-pattern.ensures
    ∙ ap (λ xs. xs ++ standing true (pattern_seen c.args.written.now) ∷ []) c.loop-done.invariant
    ∙ append_assoc c.args.patterns.now.items (near_ones p c.loop-done.done) _
    ∙ ap (λ xs. c.args.patterns.now.items ++ xs) (near_more p c.loop-done.done)
