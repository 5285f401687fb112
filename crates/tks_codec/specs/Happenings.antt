-- What scripts bound to events rest on, as bytes (this project's own format): bindings, virtual events, the history.
use Rattle.std.specs.Prelude.{ℕ, List, [], ◌∷◌}
use Rattle.tks_event.specs.Event.{Event}
use Rattle.tks_bind.specs.Binding.{Content}
use Rattle.tks_bind.specs.declared.virtual_event.VirtualEvent.{VirtualEvent}
use Rattle.tks_spelling.specs.Spelling.{Read, Spelling, field, through}
use Rattle.tks_codec_events.specs.Bindings.{bindings}
use Rattle.tks_codec_events.specs.Virtuals.{virtuals}
use Rattle.tks_codec_events.specs.History.{history}
use Rattle.tks_codec.specs.declared.happenings.Happenings as declared

pub record Happenings : Type 0 where
  pub bindings : Content
  pub virtuals : List VirtualEvent
  pub history : List Event

-- given the number of the next binding
abbrev pub happenings : ℕ → Spelling Happenings
happenings next =
    field (λ x. x.bindings.bindings) (bindings next) (λ bs.
    field (λ x. x.virtuals) virtuals (λ vs.
    through (λ x. x.history) (λ events. record { bindings = record { bindings = bs; next = next }; virtuals = vs; history = events }) history))

-- the spellings of these parts
abbrev pub happenings_parts : Happenings → List (List ℕ)
happenings_parts x = (bindings x.bindings.next).write x.bindings.bindings ∷ virtuals.write x.virtuals ∷ history.write x.history ∷ []

-- those at the front of bytes, and what stands behind them
unfoldable pub happenings_at : ℕ → List ℕ → Read Happenings
happenings_at next bytes = (happenings next).read bytes

-- what stands in those that were read
abbrev pub happenings_seen : declared.Happenings → Happenings
happenings_seen x = record { bindings = x.bindings; virtuals = x.virtuals; history = x.history }
