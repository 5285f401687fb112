use Rattle.std.proofs.Common.{◌≡◌, true, List, ◌++◌}
use Rattle.tks_bind.specs.declared.virtual_event.VirtualEvent.{VirtualEvent}
use Rattle.tks_bind.specs.WellFormed.{are_virtuals}
use Rattle.tks_bind.specs.Groups.{Leads}
use Rattle.tks_bind.proofs.virtuals.grouped.Given as goal

-- the sequences of those so far are in their groups
abbrev pub invariant-loop-event : goal.invariant-loop-event
invariant-loop-event l = (done : List VirtualEvent) × (done ++ l.event-iterator ≡ l.fn.events) × (are_virtuals l.fn.events ≡ true → Leads l.groups done)
