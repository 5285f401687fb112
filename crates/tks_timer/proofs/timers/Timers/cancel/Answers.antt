use Rattle.std.proofs.Common.{◌==◌, not, sym, ap, ◌∙◌}
use Rattle.std.specs.List.{filter}
use Rattle.tks_timer.specs.Order.{in_turn}
use Rattle.tks_timer.specs.After.{Content, without}
use Rattle.tks_timer.proofs.Forming.{fewer_kept, timers_rise, idles_rise}
use Rattle.tks_timer.proofs.timers.Timers.cancel.Goals as goal

pub remove_number-requires : goal.remove_number-requires
remove_number-requires c =
    let content : Content = record { timers = c.self.inside.timers; idles = c.self.inside.idles; next = c.self.inside.next } in
    rw c.in_ok-timers.ensures (timers_rise content c.self.invariant.waiting)

pub remove_number-requires-2 : goal.remove_number-requires-2
remove_number-requires-2 c =
    let content : Content = record { timers = c.self.inside.timers; idles = c.self.inside.idles; next = c.self.inside.next } in
    idles_rise content c.self.invariant.waiting

pub invariant_of-self-2 : goal.invariant_of-self-2
invariant_of-self-2 c =
    let content : Content = record { timers = c.self.inside.timers; idles = c.self.inside.idles; next = c.self.inside.next } in
    record {
      waiting = rw (c.in_ok-remove_number.ensures.ok, c.in_ok-remove_number-2.ensures.ok, c.in_ok-timers.ensures) (fewer_kept c.args.id content c.self.invariant.waiting);
      order =
          c.in_ok-order.ensures
          ∙ ap (λ (all : Content). in_turn (without c.args.id all).timers) (sym c.self.view_is)
          ∙ ap (λ ts. in_turn (filter (λ t. not (t.id == c.args.id)) ts)) (sym c.in_ok-timers.ensures)
          ∙ ap in_turn (sym c.in_ok-remove_number.ensures.ok);
    }
