-- What the code's answers say of the definitions.
use Rattle.std.specs.Prelude.{◌≡◌, ◌⊎◌, ◌==◌, ◌<◌, ◌&&◌, ℕ, List, true, false, Option, Some, None, Result, Ok, Err}
use Rattle.tks_text.specs.Fault.{fault_text}
use Rattle.tks_text.specs.declared.fault.ScriptFault.{ScriptFault}
use Rattle.tks_text.specs.declared.limits.Limits.{Limits}
use Rattle.tks_text.specs.Limits.{fits}
use Rattle.tks_tcl.specs.declared.stop.Stop.{Stop}
use Rattle.tks_tcl.specs.declared.stop.Stop.TheVariants as stop
use Rattle.tks_app.specs.Memories.{remembering}
use Rattle.tks_app.specs.declared.answer.AppAnswer.{AppAnswer}
use Rattle.tks_vars.specs.Table.{Map}
use Rattle.tks_eval.specs.Outcome.{Taken, Takes, TooMuch}
use Rattle.tks_eval.specs.declared.ended.Ended.{Ended}
use Rattle.tks_eval.specs.declared.host.Plan.{Plan}
use Rattle.tks_eval.specs.declared.host.Plan.TheVariants as plan
use Rattle.tks_event.specs.Event.{Event}
use Rattle.tks_queue.specs.declared.place.Place.TheVariants as place
use Rattle.tks_state.specs.World.{World, queued}
use Rattle.tks_world.specs.Stepped.{Stepped, Accepts, Refuses, max_count}
use Rattle.tks_world.specs.Gestures.{has_room}
use Rattle.tks_world.specs.Hosting.{code_of}
use Rattle.tks_world.specs.declared.things.Thing.{Thing}
use Rattle.tks_input.specs.declared.reply.Reply.{Reply}
use Rattle.tks_input.specs.declared.reply.Refused.{Refused}
use Rattle.tks_input.specs.declared.reply.Refused.TheVariants as refused

-- the end by an error, with so many steps left; want of memory may come anywhere
abbrev pub FailsSo : Limits → ScriptFault → ℕ → Result Ended Stop → Type 0
FailsSo limits fault fuel (Ok ended) = (ended ≡ record { code = 1; text = fault_text fault; fuel = fuel }) × (fits limits (fault_text fault) ≡ true)
FailsSo limits fault fuel (Err stop.TooLarge) = fits limits (fault_text fault) ≡ false
FailsSo limits fault fuel (Err stop.NoMemory) = Unit {0}
FailsSo limits fault fuel (Err why) = ⊥

-- A refusal is the definition's; want of memory may come anywhere. A step knows neither commits nor devices.
abbrev pub RefusedSo : Refused → Stepped → Type 0
RefusedSo refused.NoMemory stepped = Unit {0}
RefusedSo refused.PendingFull stepped = ⊥
RefusedSo refused.Failed stepped = ⊥
RefusedSo refused.BadInput stepped = stepped ≡ Refuses refused.BadInput
RefusedSo refused.ClockBack stepped = stepped ≡ Refuses refused.ClockBack
RefusedSo refused.Budget stepped = stepped ≡ Refuses refused.Budget
RefusedSo refused.Depth stepped = stepped ≡ Refuses refused.Depth
RefusedSo refused.TooLarge stepped = stepped ≡ Refuses refused.TooLarge
RefusedSo refused.Quiet stepped = stepped ≡ Refuses refused.Quiet

-- what came of an input is what the definition says: a reply and the world that is left, or a refusal
abbrev pub ReachesSo : Stepped → Result Reply Refused → World → Type 0
ReachesSo stepped (Ok reply) world = stepped ≡ Accepts world reply
ReachesSo stepped (Err why) world = RefusedSo why stepped

-- the refusal that a stop comes to
abbrev pub refused_by : Stop → Refused
refused_by stop.Budget = refused.Budget
refused_by stop.Depth = refused.Depth
refused_by stop.TooLarge = refused.TooLarge
refused_by stop.NoMemory = refused.NoMemory

-- an event joined those that wait, and nothing else changed; without room for it, or for one input more, it is too much
abbrev pub JoinsSo : Limits → Event → Result (Unit {0}) Refused → World → World → Type 0
JoinsSo limits e (Ok done) old new = (has_room limits e old ≡ true) × (old.accepted < max_count) × (new ≡ queued place.Tail e old)
JoinsSo limits e (Err refused.TooLarge) old new = (has_room limits e old ≡ false) ⊎ ((old.accepted == max_count) ≡ true)
JoinsSo limits e (Err refused.NoMemory) old new = Unit {0}
JoinsSo limits e (Err why) old new = ⊥

-- what was taken out to be done, and the world that is left, are the definition's; with nothing to do the world is as it was
abbrev pub TakenSo : Option (Thing × World) → Option Thing → World → World → Type 0
TakenSo given None old new = (given ≡ None) × (new ≡ old)
TakenSo given (Some thing) old new = given ≡ Some (thing, new)

-- what a thing wants done is the definition's; what is more than may be, or want of memory, stops it
abbrev pub PlansSo : {S : Type 0} → Taken S → Result Plan Stop → S → Type 0
PlansSo taken (Ok p) new = taken ≡ Takes p new
PlansSo taken (Err stop.TooLarge) new = taken ≡ TooMuch
PlansSo taken (Err stop.NoMemory) new = Unit {0}
PlansSo taken (Err why) new = ⊥

-- A command of the application answered this, and its memory is kept; or its text or its memory would pass the limit.
abbrev pub CallsSo : Limits → List ℕ → AppAnswer → Result Plan Stop → Map (List ℕ) → Map (List ℕ) → Type 0
CallsSo limits name a (Ok p) old new =
    (fits limits a.text && fits limits a.memory ≡ true) × (p ≡ plan.Answer (code_of a.code) a.text) × (new ≡ remembering name a.memory old)
CallsSo limits name a (Err stop.TooLarge) old new = fits limits a.text && fits limits a.memory ≡ false
CallsSo limits name a (Err stop.NoMemory) old new = Unit {0}
CallsSo limits name a (Err why) old new = ⊥
