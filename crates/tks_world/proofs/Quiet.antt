-- A turn is quiet just where nothing waits.
use Rattle.std.proofs.Common.{◌≡◌, ◌<◌, ◌==◌, ◌↔◌, ◌+◌, ℕ, Bool, true, false, cond, List, [], ◌∷◌, ◌++◌, Option, Some, None, refl, ap, sym, ◌∙◌, subst}
use Rattle.std.specs.Prelude.{option_map}
use Rattle.std.specs.List.{AllByRecursion}
use Rattle.std.proofs.lemmas.Bool.{eq-eqb, lt-ltb}
use Rattle.tks_text.specs.declared.limits.Limits.{Limits}
use Rattle.tks_queue.specs.declared.queued.Queued.{Queued}
use Rattle.tks_queue.specs.EventQueue.{first}
use Rattle.tks_timer.specs.declared.entry.Timer.{Timer}
use Rattle.tks_timer.specs.declared.entry.Idle.{Idle}
use Rattle.tks_timer.specs.After.{first_due, due_at, first_idle, timer_script, idle_script, idle_kept, timer_kept, kept_under, script_in}
use Rattle.tks_timer.specs.Firsts.{IsNextDue, RunsNext}
use Rattle.tks_timer.proofs.Firsts.{runs_next}
use Rattle.tks_app.specs.Applications.{Application}
use Rattle.tks_vars.specs.Variables.{Variables}
use Rattle.tks_state.specs.World.{World, without_id}
use Rattle.tks_eval.specs.Outcome.{Outcome, Why, End, Stopped, OutOfSteps, TooDeep}
use Rattle.tks_eval.specs.Outcome as outcome
use Rattle.tks_world.specs.Hosting.{Setting}
use Rattle.tks_world.specs.Laws.{NothingWaits}
use Rattle.tks_world.specs.Scripts.{lent}
use Rattle.tks_world.specs.Step.{Refuses, step}
use Rattle.tks_world.specs.Stepped.{Accepts, counted, max_count}
use Rattle.tks_world.specs.Things.{Next, script_taken, idle_or_none, timer_or_idle, event_or_script, next_thing}
use Rattle.tks_world.specs.Telling.{told}
use Rattle.tks_world.specs.Turns.{finished, thing_runs, turned, turn_step}
use Rattle.tks_world.specs.declared.things.Thing.{Thing}
use Rattle.tks_world.specs.declared.things.Thing.TheVariants as thing
use Rattle.tks_input.specs.declared.input.Input.TheVariants.{Turn}
use Rattle.tks_input.specs.declared.reply.Refused.TheVariants.{Quiet, TooLarge}

-- ---- what is there is taken out

timer_there : (id : ℕ) (before behind : List Timer) (t : Timer) → t.id ≡ id → timer_script id (before ++ t ∷ behind) ≡ None → ⊥
timer_there id [] behind t is h = absurd (let some : Some t.script ≡ None = rw (eq-eqb t.id id is) at h in cc)
timer_there id (u ∷ before) behind t is h = by (u.id == id) h (timer_there id before behind t is)
  where
    by : (b : Bool) → cond b (Some u.script) (timer_script id (before ++ t ∷ behind)) ≡ None → (timer_script id (before ++ t ∷ behind) ≡ None → ⊥) → ⊥
    by true some rest = absurd cc
    by false none rest = rest none

none_taken : (kind : ℕ → List ℕ → Thing) (id : ℕ) (w : World) → script_taken kind id w ≡ None → script_in (kept_under id w.timers) ≡ None
none_taken kind id w h = by (script_in (kept_under id w.timers)) h
  where
    by : (o : Option (List ℕ)) → option_map {U = Thing × World} (λ script. (kind id script, without_id id w)) o ≡ None → o ≡ None
    by None h = refl
    by (Some script) h = absurd cc

pub due_there : (w : World) (id : ℕ) → IsNextDue w.clock w.timers.timers id → script_in (kept_under id w.timers) ≡ None → ⊥
due_there w id due h =
    by (timer_script id w.timers.timers) refl h
  where
    by : (o : Option (List ℕ)) → timer_script id w.timers.timers ≡ o → script_in (timer_kept o (idle_kept (idle_script id w.timers.idles))) ≡ None → ⊥
    by None none k = timer_there id due.there.before due.there.behind due.timer due.named (ap (timer_script id) (sym due.there.there) ∙ none)
    by (Some script) some k = absurd cc

pub idle_there : (w : World) (i : Idle) (rest : List Idle) → w.timers.idles ≡ i ∷ rest → script_taken thing.Idle i.id w ≡ None → ⊥
idle_there w i rest is h =
    by (timer_script i.id w.timers.timers) (none_taken thing.Idle i.id w h)
  where
    found : idle_script i.id w.timers.idles ≡ Some i.script
    found = ap (idle_script i.id) is ∙ (rw (eq-eqb i.id i.id refl) refl)

    by : (o : Option (List ℕ)) → script_in (timer_kept o (idle_kept (idle_script i.id w.timers.idles))) ≡ None → ⊥
    by None k = absurd (let some : Some i.script ≡ None = rw found at k in cc)
    by (Some script) k = absurd cc

-- ---- nothing is next

no_events : (w : World) → next_thing w ≡ None → w.queue ≡ []
no_events w h = by w.queue h
  where
    by : (queue : List Queued) → event_or_script (first queue) w ≡ None → queue ≡ []
    by [] h = refl
    by (q ∷ queue) h = absurd cc

pub none_next : (w : World) → next_thing w ≡ None → NothingWaits w
none_next w h = by_due (due_at w.clock w.timers) refl (runs_next w.clock w.timers) (subst (λ queue. event_or_script (first queue) w ≡ None) (no_events w h) h)
  where
    by_idle : (idles : List Idle) → w.timers.idles ≡ idles → idle_or_none (first_idle idles) w ≡ None → idles ≡ []
    by_idle [] is k = refl
    by_idle (i ∷ rest) is k = absurd (idle_there w i rest is k)

    by_due : (o : Option ℕ) → due_at w.clock w.timers ≡ o → RunsNext w.clock w.timers.timers o → timer_or_idle o w ≡ None → NothingWaits w
    by_due None is late k = record { events = no_events w h; timers = late; idles = by_idle w.timers.idles refl k }
    by_due (Some id) is next k = absurd (due_there w id next (none_taken thing.Timer id w k))

none_due : (now : ℕ) (timers : List Timer) → AllByRecursion (λ t. now < t.due) timers → first_due now timers ≡ None
none_due now [] h = refl
none_due now (t ∷ timers) h = rw (lt-ltb now t.due h.0) (none_due now timers h.1)

nothing_next : (w : World) → NothingWaits w → next_thing w ≡ None
nothing_next w h =
    ap (λ queue. event_or_script (first queue) w) h.events
    ∙ ap (λ o. timer_or_idle (option_map (λ (k : ℕ × ℕ). k.1) o) w) (none_due w.clock w.timers.timers h.timers)
    ∙ ap (λ idles. idle_or_none (first_idle idles) w) h.idles

-- then no event waits, no script is due, and none waits for nothing else
pub none_waits : (w : World) → next_thing w ≡ None → (w.queue ≡ []) × (due_at w.clock w.timers ≡ None) × (first_idle w.timers.idles ≡ None)
none_waits w h =
    let waits = none_next w h in
    (waits.events, ap (option_map (λ (k : ℕ × ℕ). k.1)) (none_due w.clock w.timers.timers waits.timers), ap first_idle waits.idles)

-- ---- what is done isn't quiet

counts : (before : ℕ) (text : List ℕ) (setting : Setting) (variables : Variables) → counted before setting.world setting.memories 0 text variables ≡ Refuses Quiet → ⊥
counts before text setting variables = by (before == max_count)
  where
    by : (b : Bool) → cond b (Refuses TooLarge) (Accepts (record setting.world { accepted = before + 1; variables = variables; memories = setting.memories }) (record { number = before + 1; code = 0; text = text })) ≡ Refuses Quiet → ⊥
    by true h = absurd cc
    by false h = absurd cc

done : (before : ℕ) (text : List ℕ) (o : Outcome Setting) → finished before text o ≡ Refuses Quiet → ⊥
done before text (Stopped OutOfSteps) h = absurd cc
done before text (Stopped TooDeep) h = absurd cc
done before text (Stopped outcome.TooLarge) h = absurd cc
done before text (End code other setting variables fuel) h = counts before text setting variables h

pub quiet_so : (app : Application) (limits : Limits) (w : World) → (step app w Turn limits ≡ Refuses Quiet) ↔ NothingWaits w
unfolding step
quiet_so app limits w = (to, from)
  where
    setting : Setting
    setting = lent app.names limits w

    by : (next : Next) → next_thing setting.world ≡ next → turned app.meaning limits next setting w.variables ≡ Refuses Quiet → next_thing setting.world ≡ None
    by None is h = is
    by (Some x) is h = absurd (done setting.world.accepted (told x.1 x.0) (thing_runs app.meaning limits x.0 (record setting { world = x.1 }) w.variables) h)

    to : turn_step app limits w ≡ Refuses Quiet → NothingWaits w
    to h =
        let none = none_next setting.world (by (next_thing setting.world) refl h) in
        record { events = none.events; timers = none.timers; idles = none.idles }

    from : NothingWaits w → turn_step app limits w ≡ Refuses Quiet
    from h = ap (λ next. turned app.meaning limits next setting w.variables) (nothing_next setting.world (record { events = h.events; timers = h.timers; idles = h.idles }))
