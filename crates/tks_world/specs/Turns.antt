-- A turn: one thing that waits is done (event(n), after(n); that a turn does one thing is this project's own rule).
use Rattle.std.specs.Prelude.{ℕ, List, Some, None}
use Rattle.tks_text.specs.declared.limits.Limits.{Limits}
use Rattle.tks_vars.specs.Variables.{Variables}
use Rattle.tks_app.specs.Applications.{Application, Meaning}
use Rattle.tks_state.specs.World.{World}
use Rattle.tks_eval.specs.Outcome.{Outcome, End, Stopped, after_taken}
use Rattle.tks_eval.specs.Evaluation.{evaluate, thing_does}
use Rattle.tks_eval.specs.declared.host.Due.TheVariants as due
use Rattle.tks_world.specs.Hosting.{Setting, hosting, thing_taken}
use Rattle.tks_world.specs.Stepped.{Stepped, Refuses, counted}
use Rattle.tks_world.specs.Scripts.{refusal_of, lent}
use Rattle.tks_world.specs.Things.{Next, next_due}
use Rattle.tks_world.specs.Telling.{told}
use Rattle.tks_world.specs.declared.things.Thing.{Thing}
use Rattle.tks_input.specs.declared.reply.Refused.TheVariants.{Quiet}

-- whatever a thing's scripts end with, the input is accepted, behind so many, with what is told of it; a stop refuses it
abbrev pub finished : ℕ → List ℕ → Outcome Setting → Stepped
finished before text (Stopped why) = Refuses (refusal_of why)
finished before text (End code other setting variables fuel) = counted before setting.world setting.memories 0 text variables

module _ (m : Meaning) (limits : Limits) where
  -- a thing is done, in the setting without it, with all the steps that an input has
  abbrev pub thing_runs : Thing → Setting → Variables → Outcome Setting
  thing_runs x setting variables =
      after_taken (thing_taken setting x) setting variables limits.fuel (thing_does (hosting m) limits (evaluate (hosting m) limits limits.depth))

  -- what is told is told of what is there before anything runs; with nothing to do the input is refused
  abbrev pub turned : Next → Setting → Variables → Stepped
  turned None setting variables = Refuses Quiet
  turned (Some x) setting variables = finished setting.world.accepted (told x.1 x.0) (thing_runs x.0 (record setting { world = x.1 }) variables)

  -- a turn in the world that is lent
  abbrev pub turn_does : Setting → Variables → Stepped
  turn_does setting variables = turned (next_due due.All setting.world) setting variables

abbrev pub turn_step : Application → Limits → World → Stepped
turn_step app limits w = turn_does app.meaning limits (lent app.names limits w) w.variables
