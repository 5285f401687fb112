use Rattle.std.proofs.Common.{◌≡◌, ◌==◌, Some, None, List, sym, ap, ◌∙◌}
use Rattle.std.specs.Prelude.{not, option_copied}
use Rattle.std.specs.List.{filter, find}
use Rattle.tks_timer.specs.After.{Content}
use Rattle.tks_timer.specs.Order.{in_turn}
use Rattle.tks_timer.specs.declared.entry.Timer.{Timer}
use Rattle.tks_timer.proofs.Forming.{timers_rise}
use Rattle.tks_timer.proofs.Ordering.{found_goes, not_found_stays}
use Rattle.tks_timer.proofs.timers.Timers.order_without.Goals as goal

pub returns-in_default : goal.returns-in_default
returns-in_default c =
    let missing : find (λ t. t.id == c.args.id) c.args.self.now.timers ≡ None = sym c.timer_of.ensures ∙ ap option_copied c.in_default.is in
    c.in_ok-order.ensures
    ∙ c.self.invariant.order
    ∙ ap (λ (all : Content). in_turn all.timers) c.self.view_is
    ∙ ap in_turn (sym (not_found_stays c.args.id c.args.self.now.timers missing))

pub returns : goal.returns
returns c =
    let content : Content = record { timers = c.self.inside.timers; idles = c.self.inside.idles; next = c.self.inside.next } in
    let rest : List Timer = filter (λ t. not (t.id == c.args.id)) c.self.inside.timers in
    let found : find (λ t. t.id == c.args.id) c.self.inside.timers ≡ Some c.in-Some.timer.now =
    ap (λ (all : Content). find (λ t. t.id == c.args.id) all.timers) c.self.view_is ∙ sym c.timer_of.ensures ∙ ap option_copied c.in-Some.is in
    c.in_ok-take.ensures.ok (in_turn rest)
    (c.in_ok-order.ensures ∙ c.self.invariant.order
    ∙ found_goes c.args.id 0 c.self.inside.timers c.in-Some.timer.now (timers_rise content c.self.invariant.waiting) found)
    ∙ ap (λ (all : Content). in_turn (filter (λ t. not (t.id == c.args.id)) all.timers)) c.self.view_is
