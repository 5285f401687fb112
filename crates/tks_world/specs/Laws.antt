-- What holds of all steps, and of all runs (this project's own rule).
use Rattle.std.specs.Prelude.{◌≡◌, ◌↔◌, ◌<◌, ◌+◌, ◌++◌, ℕ, codes, List, [], ◌∷◌}
use Rattle.std.specs.List.{AllByRecursion}
use Rattle.tks_text.specs.declared.limits.Limits.{Limits}
use Rattle.tks_vars.specs.Variables.{Variables}
use Rattle.tks_app.specs.Applications.{Application, Meaning}
use Rattle.tks_state.specs.World.{World}
use Rattle.tks_state.specs.declared.rules.Rules.TheVariants.{Two}
use Rattle.tks_eval.specs.Outcome.{Level, End}
use Rattle.tks_eval.specs.Evaluation.{call}
use Rattle.tks_world.specs.Hosting.{Setting, hosting}
use Rattle.tks_world.specs.Step.{step, Accepts, Refuses}
use Rattle.tks_world.specs.Run.{run_of, then_run, accepted_among}
use Rattle.tks_input.specs.declared.input.Input.{Input}
use Rattle.tks_input.specs.declared.input.Input.TheVariants.{Turn}
use Rattle.tks_input.specs.declared.reply.Refused.TheVariants.{Quiet}
use Rattle.tks_input.specs.declared.reply.Reply.{Reply}

-- what is accepted within limits is accepted within wider ones, with the same world and reply
abbrev pub AcceptsStay : Application → Limits → Limits → Type 0
AcceptsStay app limits wider = (world world' : World) (input : Input) (reply : Reply)
    → step app world input limits ≡ Accepts world' reply → step app world input wider ≡ Accepts world' reply

-- the run of two lists, one behind the other, is the run of the first, and then that of the second from where it ended
abbrev pub RunsJoin : Application → Limits → Type 0
RunsJoin app limits = (world : World) (first second : List Input)
    → run_of app world (first ++ second) limits ≡ then_run (run_of app world first limits) (λ w. run_of app w second limits)

-- whichever inputs are refused between, the world and the replies are those of a run over the accepted ones
abbrev pub RefusedLeaveOut : Application → Limits → Type 0
RefusedLeaveOut app limits = (world : World) (inputs : List Input)
    → run_of app world (accepted_among app world inputs limits) limits ≡ run_of app world inputs limits

-- no frame of variables stands
abbrev pub AtRest : World → Type 0
AtRest world = world.variables.locals ≡ []

-- so it is after an input, if it was before
abbrev pub StepsRest : Application → Limits → Type 0
StepsRest app limits = (world : World) (input : Input) (world' : World) (reply : Reply) → AtRest world → step app world input limits ≡ Accepts world' reply → AtRest world'

abbrev pub RunsRest : Application → Limits → Type 0
RunsRest app limits = (world : World) (inputs : List Input) → AtRest world → AtRest (run_of app world inputs limits).0

-- nothing is to be done: no event waits, no timer is due, and no idle script stands
pub record NothingWaits (w : World) : Type 0 where
  pub events : w.queue ≡ []
  pub timers : AllByRecursion (λ t. w.clock < t.due) w.timers.timers
  pub idles : w.timers.idles ≡ []

-- a turn is quiet just there
abbrev pub QuietSo : Application → Limits → Type 0
QuietSo app limits = (world : World) → (step app world Turn limits ≡ Refuses Quiet) ↔ NothingWaits world

-- by the second rules, behind an `update` that ended, in whatever script, nothing waits that a turn would do; it ended well, and
-- has nothing to say, whatever the scripts ended with that it ran (update(n))
abbrev pub UpdatesLeaveNothing : Meaning → Limits → Type 0
UpdatesLeaveNothing m limits = (inner : Level Setting) (s s' : Setting) (v v' : Variables) (fuel left : ℕ) (code : ℕ) (text : List ℕ) → s.world.rules ≡ Two
    → call (hosting m) limits inner (codes "update" ∷ []) s v fuel ≡ End code text s' v' left → (code ≡ 0) × (text ≡ []) × NothingWaits s'.world

-- behind an `update idletasks` no idle script stands
abbrev pub UpdatesLeaveNoIdle : Meaning → Limits → Type 0
UpdatesLeaveNoIdle m limits = (inner : Level Setting) (s s' : Setting) (v v' : Variables) (fuel left : ℕ) (code : ℕ) (text : List ℕ) → s.world.rules ≡ Two
    → call (hosting m) limits inner (codes "update" ∷ codes "idletasks" ∷ []) s v fuel ≡ End code text s' v' left → (code ≡ 0) × (text ≡ []) × (s'.world.timers.idles ≡ [])

-- an accepted input adds one to the count of the world, and its reply tells that count
abbrev pub StepsCount : Application → Limits → Type 0
StepsCount app limits = (world : World) (input : Input) (world' : World) (reply : Reply)
    → step app world input limits ≡ Accepts world' reply → (world'.accepted ≡ world.accepted + 1) × (reply.number ≡ world.accepted + 1)

-- these inputs, one after the other, are each accepted, with these replies, and lead from the one world to the other
abbrev pub Accepted : Application → Limits → World → List Input → List Reply → World → Type 0
Accepted app limits old [] [] new = old ≡ new
Accepted app limits old [] (reply ∷ replies) new = ⊥
Accepted app limits old (input ∷ inputs) [] new = ⊥
Accepted app limits old (input ∷ inputs) (reply ∷ replies) new =
    (mid : World) × (step app old input limits ≡ Accepts mid reply) × Accepted app limits mid inputs replies new

-- inputs that are accepted within limits are accepted within wider ones, with the same replies, and lead to the same world
abbrev pub RunsStay : Application → Limits → Limits → Type 0
RunsStay app limits wider = (old : World) (inputs : List Input) (replies : List Reply) (new : World)
    → Accepted app limits old inputs replies new → Accepted app wider old inputs replies new
