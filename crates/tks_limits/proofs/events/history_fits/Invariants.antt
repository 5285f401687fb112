use Rattle.std.proofs.Common.{◌≡◌}
use Rattle.std.specs.List.{list_all}
use Rattle.tks_limits.specs.Within as kinds
use Rattle.tks_limits.proofs.events.history_fits.Given as goal

-- the others decide
abbrev pub invariant-loop-event : goal.invariant-loop-event
invariant-loop-event l = list_all (kinds.event_fits l.limits) l.event-iterator ≡ list_all (kinds.event_fits l.fn.limits) l.fn.history
