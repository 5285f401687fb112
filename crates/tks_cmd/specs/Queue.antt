-- Events that are put into the queue (event(n), `event generate -when`; that the queue passes no limit is this project's own
-- rule).
use Rattle.std.specs.Prelude.{nat_le, if◌then◌else◌, length, Result, Ok, Err}
use Rattle.tks_text.specs.declared.limits.Limits.{Limits}
use Rattle.tks_tcl.specs.Cause.{Cause, OverLimit}
use Rattle.tks_event.specs.Event.{Event}
use Rattle.tks_queue.specs.declared.place.Place.{Place}
use Rattle.tks_state.specs.World.{World, queued}

module _ (limits : Limits) where
  -- the queue passes no limit
  abbrev pub queue_within : World → Result World Cause
  queue_within w = if nat_le (length w.queue) limits.items then Ok w else Err OverLimit

  -- an event put into its place
  abbrev pub put_within : Place → Event → World → Result World Cause
  put_within p e w = queue_within (queued p e w)
