use Rattle.std.proofs.Common.{rules, ◌≡◌, ◌∷◌, ◌++◌, sym, ap, ◌∙◌}
use Rattle.tks_bind.proofs.Latest.{one_held}
use Rattle.tks_bind.proofs.ring.RingCopied.copied.Goals as goal

pub loop-event-preserved : goal.loop-event-preserved
loop-event-preserved c =
    let steps : c.loop-event.event-iterator ≡ c.in_ok-share.field-0 ∷ c.next.new.self = search rules in
    one_held c.loop-event.copy c.in_ok-share.field-0 c.next.new.self c.push.new.self c.args.self.now c.len.ensures.within c.push.ensures
    (ap (λ l. c.loop-event.copy ++ l) (sym steps) ∙ c.loop-event.invariant)
