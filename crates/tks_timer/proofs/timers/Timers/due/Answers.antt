use Rattle.std.proofs.Common.{◌≡◌, sym, subst, ap, ◌∙◌}
use Rattle.tks_timer.specs.After.{Content, due_at}
use Rattle.tks_timer.specs.Firsts.{RunsNext}
use Rattle.tks_timer.proofs.Firsts.{runs_next}
use Rattle.tks_timer.proofs.Ordering.{due_is}
use Rattle.tks_timer.proofs.timers.Timers.due.Goals as goal

pub returns-clause-value : goal.returns-clause-value
returns-clause-value c =
    let content : Content = record { timers = c.self.inside.timers; idles = c.self.inside.idles; next = c.self.inside.next } in
    c.due.ensures ∙ due_is c.args.now content c.self.inside.order c.self.invariant.order ∙ ap (due_at c.args.now) c.self.view_is

pub returns-clause-first : goal.returns-clause-first
returns-clause-first c =
    let content : Content = record { timers = c.self.inside.timers; idles = c.self.inside.idles; next = c.self.inside.next } in
    let value : c.due.result ≡ due_at c.args.now c.args.self.now = c.due.ensures ∙ due_is c.args.now content c.self.inside.order c.self.invariant.order ∙ ap (due_at c.args.now) c.self.view_is in
    subst (RunsNext c.args.now c.args.self.now.timers) (sym value) (runs_next c.args.now c.args.self.now)
