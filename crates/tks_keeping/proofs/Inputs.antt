-- Inputs that run no script keep the world within limits, and so does taking out what a turn does.
use Rattle.std.proofs.Common.{◌≡◌, ℕ, ◌==◌, ◌+◌, true, false, ◌&&◌, List, [], ◌∷◌, length, Option, Some, None, option_map, IfSome, refl, arith}
use Rattle.std.specs.Prelude.{nat_le, nat_lt}
use Rattle.std.specs.FinMap as fin
use Rattle.std.specs.List.{list_all}
use Rattle.std.proofs.lemmas.Bool.{and_from, and_parts, cond_both}
use Rattle.tks_text.specs.Limits.{fits}
use Rattle.tks_text.specs.Size.{Extent}
use Rattle.tks_text.specs.declared.limits.Limits.{Limits}
use Rattle.tks_vars.specs.Table.{Map}
use Rattle.tks_vars.specs.Variables.{Variables}
use Rattle.tks_event.specs.Event.{Event}
use Rattle.tks_event.specs.Keysyms.{is_keysym}
use Rattle.tks_event.specs.Held.{pressed, released}
use Rattle.tks_event.specs.declared.held.Held.{Held}
use Rattle.tks_event.specs.declared.kind.Kind.{Kind}
use Rattle.tks_event.specs.declared.kind.Kind.TheVariants as kind
use Rattle.tks_queue.specs.EventQueue.{put, queued, first, without_first}
use Rattle.tks_queue.specs.declared.place.Place.TheVariants as place
use Rattle.tks_queue.specs.declared.queued.Queued.{Queued}
use Rattle.tks_timer.specs.After.{due_at, first_idle, timer_script, idle_script, idle_kept, timer_kept, kept_under, script_in}
use Rattle.tks_timer.specs.declared.entry.Idle.{Idle}
use Rattle.tks_timer.specs.declared.entry.Timer.{Timer}
use Rattle.tks_state.specs.EventLoop.{is_there}
use Rattle.tks_state.specs.World as world
use Rattle.tks_state.specs.Rules.{number_of, numbered}
use Rattle.tks_state.specs.World.{World, holding, with_rules, with_clock, without_event, without_id}
use Rattle.tks_state.specs.declared.rules.Rules.{Rules as WorldRules}
use Rattle.tks_limits.specs.Within.{may_hold, texts_fit, event_fits, queue_fits, variables_fit, memories_fit, windows_fit, events_fit, within}
use Rattle.tks_world.specs.Stepped.{Stepped, Accepts, Refuses, max_count, counted, kept}
use Rattle.tks_world.specs.Gestures.{has_room, remembering, left_by, gesture_step}
use Rattle.tks_world.specs.Keys.{key_gesture, key_step, key_press_step, key_release_step}
use Rattle.tks_world.specs.Buttons.{is_button_number, on_grid, target_at, release_target, press_gesture, release_gesture, press_step, release_step}
use Rattle.tks_world.specs.Step.{max_clock, clock_step, by_rules, rules_step}
use Rattle.tks_eval.specs.declared.host.Due.{Due}
use Rattle.tks_eval.specs.declared.host.Due.TheVariants as due
use Rattle.tks_world.specs.Things.{Next, script_taken, idle_or_none, timer_or_idle, event_or_script, next_thing, next_due}
use Rattle.tks_world.specs.declared.gestures.Gesture.{Gesture}
use Rattle.tks_world.specs.declared.things.Thing.{Thing}
use Rattle.tks_world.specs.declared.things.Thing.TheVariants as thing
use Rattle.tks_keeping.specs.Fitting.{WorldFits}
use Rattle.tks_keeping.proofs.Lists.{one_so, AllSo}
use Rattle.tks_keeping.proofs.Texts.{TextFits, TextsFit, empty_fits, fewer_fit, one_more_fits}
use Rattle.tks_keeping.proofs.Variables.{VariablesFit}
use Rattle.tks_keeping.proofs.Parts.{events_opened, with_queue_fits}
use Rattle.tks_keeping.proofs.Delivered.{put_queue_fits}
use Rattle.tks_keeping.proofs.Timers.{world_timers, without_id_fits}

-- ---- a whole world

-- a world that fits with its variables and memories, which have these names
pub record WholeFits (limits : Limits) (grid : Extent) (names : List (List ℕ)) (w : World) : Type 0 where
  pub world : WorldFits limits grid w
  pub variables : VariablesFit limits w.variables
  pub memories : memories_fit limits w.memories ≡ true
  pub named : fin.keys w.memories ≡ names

-- a world within limits fits, on its grid and with the names that it has
pub within_opened : (limits : Limits) (w : World) → within limits w ≡ true → WholeFits limits w.grid (fin.keys w.memories) w
unfolding within
within_opened limits w h =
    let a = and_parts (windows_fit limits w) _ h in
    let b = and_parts (variables_fit limits w.variables) _ a.1 in
    let c = and_parts (events_fit limits w) _ b.1 in
    let d = and_parts (memories_fit limits w.memories) (texts_fit limits w.faults) c.1 in
    record { world = record { on_grid = refl; windows = a.0; events = c.0; faults = d.1 }; variables = b.0; memories = d.0; named = refl }

module _ (limits : Limits) (grid : Extent) (names : List (List ℕ)) where
  -- and one that fits is within limits
  pub within_closed : (w : World) → WholeFits limits grid names w → within limits w ≡ true
  unfolding within
  within_closed w h =
      and_from (windows_fit limits w) _ h.world.windows
      (and_from (variables_fit limits w.variables) _ h.variables
      (and_from (events_fit limits w) _ h.world.events
      (and_from (memories_fit limits w.memories) (texts_fit limits w.faults) h.memories h.world.faults)))

  -- a world fits by its parts
  whole : (w : World) → w.grid ≡ grid → windows_fit limits w ≡ true → events_fit limits w ≡ true → TextsFit limits w.faults → VariablesFit limits w.variables
      → memories_fit limits w.memories ≡ true → fin.keys w.memories ≡ names → WholeFits limits grid names w
  whole w on_grid windows events faults v m n = record { world = record { on_grid = on_grid; windows = windows; events = events; faults = faults }; variables = v; memories = m; named = n }

  -- ---- what an input comes to

  -- where it is accepted, the world that is left fits
  abbrev pub StepFits : Stepped → Type 0
  StepFits (Accepts w reply) = WholeFits limits grid names w
  StepFits (Refuses why) = Unit {0}

  -- a world that fits, with variables and memories that fit, is counted
  pub counted_keeps : (before : ℕ) (w : World) (memories : Map (List ℕ)) (code : ℕ) (text : List ℕ) (variables : Variables) → WorldFits limits grid w
      → VariablesFit limits variables → memories_fit limits memories ≡ true → fin.keys memories ≡ names → StepFits (counted before w memories code text variables)
  counted_keeps before w memories code text variables h v m n =
      one_so StepFits (before == max_count) _ _ tt
      (whole (record w { accepted = before + 1; variables = variables; memories = memories }) h.on_grid h.windows h.events h.faults v m n)

  kept_keeps : (w : World) → WholeFits limits grid names w → StepFits (kept w)
  kept_keeps w h = counted_keeps w.accepted w w.memories 0 [] w.variables h.world h.variables h.memories h.named

  -- ---- keys, buttons, the clock

  queued_whole : (e : Event) (w : World) → TextFits limits e.payload → has_room limits e w ≡ true → WholeFits limits grid names w → WholeFits limits grid names (world.queued place.Tail e w)
  queued_whole e w p room h =
      let r = and_parts (fits limits e.detail) (nat_lt (length w.queue) limits.items) room in
      let event = and_from (fits limits e.detail) (fits limits e.payload) r.0 p in
      let all = put_queue_fits limits place.Tail e w.queue event (one_more_fits limits w.queue (queued false e) r.1) (events_opened limits w h.world.events).queue in
      one_so (WholeFits limits grid names) (is_there w.tree.windows e.window) (record w { queue = put place.Tail e w.queue }) w
      (record { world = with_queue_fits limits grid w h.world (put place.Tail e w.queue) all; variables = h.variables; memories = h.memories; named = h.named }) h

  holding_whole : (held : Held) (w : World) → WholeFits limits grid names w → WholeFits limits grid names (holding held w)
  holding_whole held w h = whole (holding held w) h.world.on_grid h.world.windows h.world.events h.world.faults h.variables h.memories h.named

  remembering_whole : (took : Option ℕ) (w : World) → WholeFits limits grid names w → WholeFits limits grid names (remembering took w)
  remembering_whole None w h = h
  remembering_whole (Some window) w h = whole (remembering (Some window) w) h.world.on_grid h.world.windows h.world.events h.world.faults h.variables h.memories h.named

  -- a key or a button whose event carries nothing that is too long
  gesture_keeps : (g : Gesture) (w : World) → TextFits limits g.event.payload → WholeFits limits grid names w → StepFits (gesture_step limits g w)
  gesture_keeps g w p h =
      let queued_world = world.queued place.Tail g.event w in
      cond_both (has_room limits g.event w) _ _ StepFits (λ room.
      kept_keeps (left_by g w) (remembering_whole g.took (holding g.held queued_world) (holding_whole g.held queued_world (queued_whole g.event w p room h)))) (λ _. tt)

  key_keeps : (k : Kind) (key : List ℕ) (now_held : Held) (w : World) → WholeFits limits grid names w → StepFits (key_step limits k key now_held w)
  key_keeps k key now_held w h = one_so StepFits (is_keysym key) _ _ (gesture_keeps (key_gesture k key now_held w) w (empty_fits limits) h) tt

  -- a key that is pressed or released, a button, the clock
  pub key_press_keeps : (key : List ℕ) (w : World) → WholeFits limits grid names w → StepFits (key_press_step limits key w)
  key_press_keeps key w h = key_keeps kind.KeyPress key (pressed key w.held) w h

  pub key_release_keeps : (key : List ℕ) (w : World) → WholeFits limits grid names w → StepFits (key_release_step limits key w)
  key_release_keeps key w h = key_keeps kind.KeyRelease key (released key w.held) w h

  pub press_keeps : (button x y : ℕ) (w : World) → WholeFits limits grid names w → StepFits (press_step limits button x y w)
  press_keeps button x y w h =
      one_so StepFits (is_button_number button && on_grid w x y) _ _ (gesture_keeps (press_gesture button x y (target_at w x y) w) w (empty_fits limits) h) tt

  pub release_keeps : (button x y : ℕ) (w : World) → WholeFits limits grid names w → StepFits (release_step limits button x y w)
  release_keeps button x y w h =
      one_so StepFits (is_button_number button && on_grid w x y) _ _ (gesture_keeps (release_gesture button x y (release_target w x y) w) w (empty_fits limits) h) tt

  pub clock_keeps : (time : ℕ) (w : World) → WholeFits limits grid names w → StepFits (clock_step time w)
  clock_keeps time w h =
      let later = whole (with_clock time w) h.world.on_grid h.world.windows h.world.events h.world.faults h.variables h.memories h.named in
      one_so StepFits (nat_lt max_clock time) _ _ tt (one_so StepFits (nat_lt time w.clock) _ _ tt (kept_keeps (with_clock time w) later))

  pub rules_keeps : (number : ℕ) (w : World) → WholeFits limits grid names w → StepFits (rules_step number w)
  rules_keeps number w h = by (numbered number)
    where
      by : (rules : Option WorldRules) → StepFits (by_rules rules w)
      by None = tt
      by (Some rules) =
          let later = whole (with_rules rules w) h.world.on_grid h.world.windows h.world.events h.world.faults h.variables h.memories h.named in
          one_so StepFits (nat_le (number_of w.rules) (number_of rules)) _ _ (kept_keeps (with_rules rules w) later) tt

-- ---- what a turn does

-- an event that fits, or a script that does
abbrev pub ThingFits : Limits → Thing → Type 0
ThingFits limits (thing.Event e) = event_fits limits e ≡ true
ThingFits limits (thing.Timer id script) = TextFits limits script
ThingFits limits (thing.Idle id script) = TextFits limits script

module _ (limits : Limits) (grid : Extent) where
  -- what is taken out fits, and so does the world that is left
  abbrev pub NextFits : Next → Type 0
  NextFits next = IfSome next (λ x. ThingFits limits x.0 × WorldFits limits grid x.1)

  timer_found : (id : ℕ) (ts : List Timer) → AllSo (λ t. fits limits t.script) ts → IfSome (timer_script id ts) (TextFits limits)
  timer_found id [] h = tt
  timer_found id (t ∷ ts) h =
      let a = and_parts (fits limits t.script) (list_all (λ t. fits limits t.script) ts) h in
      one_so (λ o. IfSome o (TextFits limits)) (t.id == id) (Some t.script) (timer_script id ts) a.0 (timer_found id ts a.1)

  idle_found : (id : ℕ) (is : List Idle) → AllSo (λ i. fits limits i.script) is → IfSome (idle_script id is) (TextFits limits)
  idle_found id [] h = tt
  idle_found id (i ∷ is) h =
      let a = and_parts (fits limits i.script) (list_all (λ i. fits limits i.script) is) h in
      one_so (λ o. IfSome o (TextFits limits)) (i.id == id) (Some i.script) (idle_script id is) a.0 (idle_found id is a.1)

  script_found : (a b : Option (List ℕ)) → IfSome a (TextFits limits) → IfSome b (TextFits limits)
      → IfSome (script_in (timer_kept a (idle_kept b))) (TextFits limits)
  script_found (Some script) b h k = h
  script_found None (Some script) h k = k
  script_found None None h k = tt

  taken_fits : (kind : ℕ → List ℕ → Thing) (id : ℕ) (w : World) → ((script : List ℕ) → TextFits limits script → ThingFits limits (kind id script))
      → WorldFits limits grid w → NextFits (script_taken kind id w)
  taken_fits kind id w same h =
      let t = world_timers limits grid w h in
      by (script_in (kept_under id w.timers))
      (script_found (timer_script id w.timers.timers) (idle_script id w.timers.idles) (timer_found id w.timers.timers t.timers) (idle_found id w.timers.idles t.idles))
    where
      by : (o : Option (List ℕ)) → IfSome o (TextFits limits) → NextFits (option_map (λ script. (kind id script, without_id id w)) o)
      by None f = tt
      by (Some script) f = (same script f, without_id_fits limits grid id w h)

  idle_fits : (id : Option ℕ) (w : World) → WorldFits limits grid w → NextFits (idle_or_none id w)
  idle_fits None w h = tt
  idle_fits (Some id) w h = taken_fits thing.Idle id w (λ script f. f) h

  timer_fits : (id : Option ℕ) (w : World) → WorldFits limits grid w → NextFits (timer_or_idle id w)
  timer_fits None w h = idle_fits (first_idle w.timers.idles) w h
  timer_fits (Some id) w h = taken_fits thing.Timer id w (λ script f. f) h

  first_fits : (queue : List Queued) → AllSo (λ q. event_fits limits q.event) queue → IfSome (first queue) (λ e. event_fits limits e ≡ true)
  first_fits [] h = tt
  first_fits (q ∷ queue) h = (and_parts (event_fits limits q.event) (list_all (λ q. event_fits limits q.event) queue) h).0

  rest_fits : (queue : List Queued) → queue_fits limits queue ≡ true → queue_fits limits (without_first queue) ≡ true
  rest_fits [] h = h
  rest_fits (q ∷ queue) h =
      let a = and_parts (may_hold limits (length (q ∷ queue))) (list_all (λ q. event_fits limits q.event) (q ∷ queue)) h in
      let b = and_parts (event_fits limits q.event) (list_all (λ q. event_fits limits q.event) queue) a.1 in
      and_from (may_hold limits (length queue)) (list_all (λ q. event_fits limits q.event) queue) (fewer_fit limits (q ∷ queue) queue (omega arith) a.0) b.1

  event_taken : (o : Option Event) (w : World) → IfSome o (λ e. event_fits limits e ≡ true) → WorldFits limits grid w → NextFits (event_or_script o w)
  event_taken None w f h = timer_fits (due_at w.clock w.timers) w h
  event_taken (Some e) w f h = (f, with_queue_fits limits grid w h (without_first w.queue) (rest_fits w.queue (events_opened limits w h.events).queue))

  -- the thing that is taken out fits, and so does the world without it
  next_fits : (w : World) → WorldFits limits grid w → NextFits (next_thing w)
  next_fits w h =
      let queue = (events_opened limits w h.events).queue in
      event_taken (first w.queue) w (first_fits w.queue (and_parts (may_hold limits (length w.queue)) (list_all (λ q. event_fits limits q.event) w.queue) queue).1) h

  -- of all that waits, or of the idle scripts alone
  pub due_fits : (d : Due) (w : World) → WorldFits limits grid w → NextFits (next_due d w)
  due_fits due.All w h = next_fits w h
  due_fits due.Idle w h = idle_fits (first_idle w.timers.idles) w h
