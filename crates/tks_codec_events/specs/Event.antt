-- Events as bytes (this project's own format).
use Rattle.std.specs.Prelude.{ℕ, List, [], ◌∷◌, FitsSigned}
use Rattle.std.specs.Int.{w64}
use Rattle.tks_event.specs.Legality.{is_event}
use Rattle.tks_event.specs.Event.{Event}
use Rattle.tks_spelling.specs.Spelling.{Read, Spelling, number, signed, such_that, field, through, text}
use Rattle.tks_spelling.specs.Writing.{flattened}
use Rattle.tks_codec_events.specs.Kind.{kind}
use Rattle.tks_codec_events.specs.Sequence.{modifiers}

-- window, kind, detail, state, time, places in the window and on the screen, data
abbrev pub fields : Spelling Event
fields =
    field (λ e. e.window) (number w64) (λ window.
    field (λ e. e.kind) kind (λ k.
    field (λ e. e.detail) text (λ detail.
    field (λ e. e.state) modifiers (λ state.
    field (λ e. e.time) (number w64) (λ time.
    field (λ e. e.x) (signed w64) (λ x.
    field (λ e. e.y) (signed w64) (λ y.
    field (λ e. e.root_x) (signed w64) (λ root_x.
    field (λ e. e.root_y) (signed w64) (λ root_y.
    through (λ e. e.payload) (λ payload. record { window = window; kind = k; detail = detail; state = state; time = time; x = x; y = y; root_x = root_x; root_y = root_y; payload = payload }) text)))))))))

-- the spellings of the window, the kind and the detail
abbrev pub subject_parts : Event → List (List ℕ)
subject_parts e = (number w64).write e.window ∷ kind.write e.kind ∷ text.write e.detail ∷ []

-- of the state and the time
abbrev pub moment_parts : Event → List (List ℕ)
moment_parts e = modifiers.write e.state ∷ (number w64).write e.time ∷ []

-- of the places
abbrev pub place_parts : Event → List (List ℕ)
place_parts e = (signed w64).write e.x ∷ (signed w64).write e.y ∷ (signed w64).write e.root_x ∷ (signed w64).write e.root_y ∷ []

-- of all fields
abbrev pub event_parts : Event → List (List ℕ)
event_parts e = flattened (subject_parts e) ∷ flattened (moment_parts e) ∷ flattened (place_parts e) ∷ text.write e.payload ∷ []

-- the fields at the front of bytes, and what stands behind them
unfoldable pub fields_at : List ℕ → Read Event
fields_at bytes = fields.read bytes

-- an event
abbrev pub event : Spelling Event
event = such_that is_event fields

-- the event at the front of bytes, and what stands behind it
unfoldable pub event_at : List ℕ → Read Event
event_at bytes = event.read bytes

-- its places are integers of 64 bits
abbrev pub HasPlaces : Event → Type 0
HasPlaces e = FitsSigned w64 e.x × FitsSigned w64 e.y × FitsSigned w64 e.root_x × FitsSigned w64 e.root_y
