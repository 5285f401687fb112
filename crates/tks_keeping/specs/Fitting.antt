-- What commands keep to, and a host whose commands do (this project's own rule).
use Rattle.std.specs.Prelude.{◌≡◌, ℕ, true, List}
use Rattle.tks_text.specs.Size.{Extent}
use Rattle.tks_text.specs.Limits.{fits}
use Rattle.tks_text.specs.declared.limits.Limits.{Limits}
use Rattle.tks_vars.specs.Variables.{Variables}
use Rattle.tks_limits.specs.Within.{texts_fit, variables_fit, windows_fit, events_fit}
use Rattle.tks_state.specs.World.{World}
use Rattle.tks_eval.specs.Outcome.{Answer, Unknown, Comes, PassesLimit, Taken, Nothing, Takes, TooMuch, Meaning}
use Rattle.tks_eval.specs.declared.host.Due.{Due}
use Rattle.tks_eval.specs.declared.host.Plan.{Plan}
use Rattle.tks_eval.specs.declared.host.Plan.TheVariants as plan

-- a world on a grid and within limits, but for the variables and memories that lie beside it while scripts run
pub record WorldFits (limits : Limits) (grid : Extent) (w : World) : Type 0 where
  pub on_grid : w.grid ≡ grid
  pub windows : windows_fit limits w ≡ true
  pub events : events_fit limits w ≡ true
  pub faults : texts_fit limits w.faults ≡ true

module _ (limits : Limits) where
  -- the text of an answer fits; what is to be run for it says nothing yet
  abbrev pub PlanFits : Plan → Type 0
  PlanFits (plan.Answer code text) = fits limits text ≡ true
  PlanFits other = Unit {0}

  module _ {S : Type 0} (P : S → Type 0) where
    -- what a host's command leaves
    abbrev pub AnswerFits : Answer S → Type 0
    AnswerFits Unknown = Unit {0}
    AnswerFits PassesLimit = Unit {0}
    AnswerFits (Comes p state variables) = PlanFits p × P state × (variables_fit limits variables ≡ true)

    -- what is taken out of what waits in a host
    abbrev pub TakenFits : Taken S → Type 0
    TakenFits Nothing = Unit {0}
    TakenFits (Takes p state) = PlanFits p × P state
    TakenFits TooMuch = Unit {0}

    -- a host whose commands and faults keep P, and so does what is taken out of it, all within the limits
    pub record HostFits (host : Meaning S) : Type 0 where
      pub commands : (state : S) → P state → (variables : Variables) → variables_fit limits variables ≡ true → (words : List (List ℕ)) → texts_fit limits words ≡ true
          → AnswerFits (host.commands state variables words)
      pub faulted : (state : S) → P state → (text : List ℕ) → fits limits text ≡ true → P (host.faulted state text)
      pub next : (due : Due) (state : S) → P state → TakenFits (host.next due state)
