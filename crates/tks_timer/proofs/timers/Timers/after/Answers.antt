use Rattle.std.proofs.Common.{[], ◌∷◌, ◌++◌, ◌<◌, ◌^◌, arith, sym, ap, ◌∙◌}
use Rattle.tks_timer.specs.After.{Content, no_later}
use Rattle.tks_timer.specs.Order.{put, in_turn}
use Rattle.tks_timer.proofs.Forming.{timer_kept}
use Rattle.tks_timer.proofs.Ordering.{pushed}
use Rattle.tks_timer.proofs.timers.Timers.after.Goals as goal

pub invariant_of-self-2 : goal.invariant_of-self-2
invariant_of-self-2 c =
    let content : Content = record { timers = c.self.inside.timers; idles = c.self.inside.idles; next = c.self.inside.next } in
    let low : c.self.inside.next < 2 ^ 62 = omega (arith, c.if-id-ge-MAX_NUMBER.false) in
    record {
      waiting = rw (c.in_ok-push.ensures.ok, c.no_later-due.ensures) (timer_kept c.args.due c.args.script content low c.self.invariant.waiting);
      order =
          c.in_ok-put.ensures.ok
          ∙ (λ i. put (c.no_later-due.ensures i, c.self.inside.next) (c.in_ok-order.ensures i))
          ∙ ap (put (no_later c.args.due, c.self.inside.next)) c.self.invariant.order
          ∙ sym (pushed c.self.inside.timers (record { id = c.self.inside.next; due = no_later c.args.due; script = c.args.script }))
          ∙ ap (λ d. in_turn (c.self.inside.timers ++ (record { id = c.self.inside.next; due = d; script = c.args.script }) ∷ [])) (sym c.no_later-due.ensures)
          ∙ ap in_turn (sym c.in_ok-push.ensures.ok);
    }
