-- When a sequence occurs in a history (bind(n), "Multiple matches"; this project's own rules of what may lie between).
use Rattle.std.specs.Prelude.{◌≡◌, ℕ, ◌-◌, ◌<◌, true, List, [], ◌∷◌, length, slice_get, Some}
use Rattle.tks_event.specs.Event.{Event}
use Rattle.tks_event.specs.declared.pattern.Pattern.{Pattern}
use Rattle.tks_bind.specs.Matching.{fits, may_follow, may_lie_before}

-- this event stands at a place of the history and fits a pattern
pub record FitsAt (p : Pattern) (history : List Event) (place : ℕ) (e : Event) : Type 0 where
  pub stands : slice_get history place ≡ Some e
  pub fits : fits p e ≡ true

-- each event strictly between two places may lie before the chosen one
abbrev pub MayLieBetween : List Event → ℕ → ℕ → Event → Type 0
MayLieBetween history from to chosen = (place : ℕ) (e : Event) → from < place → place < to → slice_get history place ≡ Some e → may_lie_before chosen e ≡ true

-- what the event chosen for a pattern has to be to the one chosen before it
pub record Follows (p : Pattern) (history : List Event) (from : ℕ) (d : Event) (place : ℕ) (e : Event) : Type 0 where
  pub rises : from < place
  pub stands : slice_get history from ≡ Some d
  pub may_follow : may_follow p d e ≡ true
  pub between : MayLieBetween history from place e

-- the patterns before one, if there are any, end at a place before that of its event
abbrev pub Preceded : Pattern → List Pattern → (ℕ → Type 0) → List Event → ℕ → Event → Type 0
Preceded p [] ends history place e = Unit {0}
Preceded p (q ∷ before) ends history place e = (from : ℕ) × (d : Event) × Follows p history from d place e × ends from

-- the patterns, the last one first, have events at rising places of the history, the last of them at this place
abbrev pub EndsAt : List Pattern → List Event → ℕ → Type 0
EndsAt [] history place = ⊥
EndsAt (p ∷ before) history place = (e : Event) × FitsAt p history place e × Preceded p before (λ from. EndsAt before history from) history place e

-- patterns in the opposite order, before others
abbrev pub turned : List Pattern → List Pattern → List Pattern
turned [] done = done
turned (p ∷ patterns) done = turned patterns (p ∷ done)

-- a sequence occurs: its patterns have events at rising places of the history, the last of them the last event
abbrev pub Occurs : List Pattern → List Event → Type 0
Occurs sequence history = EndsAt (turned sequence []) history (length history - 1)
