-- Virtual events as bytes (this project's own format).
use Rattle.std.specs.Prelude.{ℕ, List, [], ◌∷◌}
use Rattle.tks_bind.specs.WellFormed.{is_virtual_event, are_virtuals}
use Rattle.tks_bind.specs.declared.virtual_event.VirtualEvent.{VirtualEvent}
use Rattle.tks_spelling.specs.Spelling.{Read, Spelling, such_that, field, through, list, text}
use Rattle.tks_codec_events.specs.Sequence.{sequence}

-- a name, and sequences in the order in which they were added
abbrev pub named : Spelling VirtualEvent
named = field (λ v. v.name) text (λ name. through (λ v. v.sequences) (λ sequences. record { name = name; sequences = sequences }) (list sequence))

-- the spellings of these parts
abbrev pub named_parts : VirtualEvent → List (List ℕ)
named_parts v = text.write v.name ∷ (list sequence).write v.sequences ∷ []

-- a virtual event
abbrev pub virtual_event : Spelling VirtualEvent
virtual_event = such_that is_virtual_event named

-- the one at the front of bytes, and what stands behind it
unfoldable pub virtual_event_at : List ℕ → Read VirtualEvent
virtual_event_at bytes = virtual_event.read bytes

-- virtual events in the order in which they were added
abbrev pub virtuals : Spelling (List VirtualEvent)
virtuals = such_that are_virtuals (list virtual_event)

-- those at the front of bytes, and what stands behind them
unfoldable pub virtuals_at : List ℕ → Read (List VirtualEvent)
virtuals_at bytes = virtuals.read bytes
