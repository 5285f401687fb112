-- Histories of events as bytes (this project's own format).
use Rattle.std.specs.Prelude.{ℕ, Bool, ◌&&◌, List, length, nat_le}
use Rattle.tks_event.specs.Event.{Event}
use Rattle.tks_bind.specs.History.{are_physical, max_history}
use Rattle.tks_spelling.specs.Spelling.{Read, Spelling, such_that, list}
use Rattle.tks_codec_events.specs.Event.{event}

-- no more events than a history holds, each a physical one
abbrev pub is_history : List Event → Bool
is_history events = nat_le (length events) max_history && are_physical events

-- the events, the latest last
abbrev pub history : Spelling (List Event)
history = such_that is_history (list event)

-- the history at the front of bytes, and what stands behind it
unfoldable pub history_at : List ℕ → Read (List Event)
history_at bytes = history.read bytes
