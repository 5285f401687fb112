use Rattle.std.proofs.Common.{◌<◌, ◌^◌, arith}
use Rattle.tks_timer.specs.After.{Content}
use Rattle.tks_timer.proofs.Forming.{idle_kept}
use Rattle.tks_timer.proofs.timers.Timers.idle.Goals as goal

pub invariant_of-self-2 : goal.invariant_of-self-2
invariant_of-self-2 c =
    let content : Content = record { timers = c.self.inside.timers; idles = c.self.inside.idles; next = c.self.inside.next } in
    let low : c.self.inside.next < 2 ^ 62 = omega (arith, c.if-id-ge-MAX_NUMBER.false) in
    record { waiting = rw c.in_ok-push.ensures.ok (idle_kept c.args.script content low c.self.invariant.waiting); order = c.self.invariant.order }
