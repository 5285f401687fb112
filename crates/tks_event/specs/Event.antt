-- Events (bind(n), event(n)), as contracts see them.
use Rattle.tks_event.specs.declared.event.EventFields.{EventFields}

-- an event is seen by its fields
abbrev pub Event : Type 0
Event = EventFields
