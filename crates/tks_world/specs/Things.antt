-- Which of the things that wait is done next, and what it wants done (event(n), after(n); their order is this project's own
-- rule).
use Rattle.std.specs.Prelude.{ℕ, List, Option, Some, None, option_map, Result, Ok}
use Rattle.tks_text.specs.declared.limits.Limits.{Limits}
use Rattle.tks_tcl.specs.Cause.{Cause}
use Rattle.tks_event.specs.Event.{Event}
use Rattle.tks_queue.specs.EventQueue.{first}
use Rattle.tks_timer.specs.After.{due_at, first_idle, kept_under, script_in}
use Rattle.tks_state.specs.World.{World, without_event, without_id}
use Rattle.tks_eval.specs.declared.host.Due.{Due}
use Rattle.tks_eval.specs.declared.host.Due.TheVariants as due
use Rattle.tks_eval.specs.declared.host.Plan.{Plan}
use Rattle.tks_eval.specs.declared.host.Plan.TheVariants as plan
use Rattle.tks_cmd.specs.Dispatch.{begun}
use Rattle.tks_world.specs.declared.things.Thing.{Thing}
use Rattle.tks_world.specs.declared.things.Thing.TheVariants as thing

-- what is done next, and the world without it
abbrev pub Next : Type 0
Next = Option (Thing × World)

-- the script of an id, taken out
abbrev pub script_taken : (ℕ → List ℕ → Thing) → ℕ → World → Next
script_taken kind id w = option_map (λ script. (kind id script, without_id id w)) (script_in (kept_under id w.timers))

-- the oldest idle script
abbrev pub idle_or_none : Option ℕ → World → Next
idle_or_none None w = None
idle_or_none (Some id) w = script_taken thing.Idle id w

-- the timer that was due first, else the oldest idle script
abbrev pub timer_or_idle : Option ℕ → World → Next
timer_or_idle None w = idle_or_none (first_idle w.timers.idles) w
timer_or_idle (Some id) w = script_taken thing.Timer id w

-- the first event, else a script
abbrev pub event_or_script : Option Event → World → Next
event_or_script None w = timer_or_idle (due_at w.clock w.timers) w
event_or_script (Some e) w = Some (thing.Event e, without_event w)

-- the first event that waits, else the timer with the least due time and id of those that are due, else the oldest idle
-- script
abbrev pub next_thing : World → Next
next_thing w = event_or_script (first w.queue) w

-- the next of these: of all that a turn would do, or of the idle scripts alone
abbrev pub next_due : Due → World → Next
next_due due.All w = next_thing w
next_due due.Idle w = idle_or_none (first_idle w.timers.idles) w

-- what a thing wants done, in the world without it: an event is delivered, a script runs at global level
abbrev pub planned : Limits → Thing → World → Result (Plan × World) Cause
planned limits (thing.Event e) w = begun limits w e
planned limits (thing.Timer id script) w = Ok (plan.Eval script, w)
planned limits (thing.Idle id script) w = Ok (plan.Eval script, w)
