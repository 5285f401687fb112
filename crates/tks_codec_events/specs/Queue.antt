-- The queue of events as bytes (this project's own format).
use Rattle.std.specs.Prelude.{ℕ, List}
use Rattle.tks_queue.specs.declared.queued.Queued.{Queued}
use Rattle.tks_queue.specs.Legal.{may_wait}
use Rattle.tks_spelling.specs.Spelling.{Read, Spelling, such_that, field, through, flag, list}
use Rattle.tks_codec_events.specs.Event.{event}

-- an event, and whether it was put with a mark
abbrev pub event_and_mark : Spelling Queued
event_and_mark = field (λ q. q.event) event (λ e. through (λ q. q.with_mark) (λ with_mark. record { event = e; with_mark = with_mark }) flag)

-- an event that waits: one of a key waits under `.`
abbrev pub queued : Spelling Queued
queued = such_that (λ q. may_wait q.event) event_and_mark

-- the one at the front of bytes, and what stands behind it
unfoldable pub queued_at : List ℕ → Read Queued
queued_at bytes = queued.read bytes

-- the events that wait, the next one first
abbrev pub queue : Spelling (List Queued)
queue = list queued
