use Rattle.std.proofs.Common.{◌≡◌, ◌++◌}
use Rattle.tks_cmd.specs.VirtualEvents.{names}
use Rattle.tks_cmd.proofs.virtual_events.names.Given as goal

-- those so far, and those further on, are all
abbrev pub invariant-loop-event : goal.invariant-loop-event
invariant-loop-event l = l.names ++ names l.event-iterator ≡ names l.fn.virtuals
