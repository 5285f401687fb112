use Rattle.std.proofs.Common.{◌≡◌}
use Rattle.std.specs.List.{list_all}
use Rattle.tks_limits.specs.Within as kinds
use Rattle.tks_limits.proofs.events.each_event_fits.Given as goal

-- the others decide
abbrev pub invariant-loop-queued : goal.invariant-loop-queued
invariant-loop-queued l = list_all (λ q. kinds.event_fits l.limits q.event) l.queued-iterator ≡ list_all (λ q. kinds.event_fits l.fn.limits q.event) l.fn.events
