use Rattle.std.proofs.Common.{◌≡◌, List, ◌++◌}
use Rattle.tks_bind.specs.declared.virtual_event.VirtualEvent.{VirtualEvent}
use Rattle.tks_bind.specs.VirtualIndexes.{ArePlaced}
use Rattle.tks_bind.proofs.virtuals.placed.Given as goal

-- those so far have their places
abbrev pub invariant-loop-event : goal.invariant-loop-event
invariant-loop-event l = (done : List VirtualEvent) × (done ++ l.event-iterator ≡ l.fn.events) × ArePlaced done l.names
