-- No frame of variables stands between inputs.
use Rattle.std.proofs.Common.{◌≡◌, ℕ, ◌==◌, Bool, true, false, ◌&&◌, if◌then◌else◌, List, [], ◌∷◌, length, Option, Some, None, refl, subst, ap, ◌∙◌}
use Rattle.std.specs.Prelude.{nat_le, nat_lt}
use Rattle.std.proofs.lemmas.List.{nil_from_length}
use Rattle.tks_text.specs.declared.limits.Limits.{Limits}
use Rattle.tks_parse.specs.Tree as parsed
use Rattle.tks_parse.specs.Reading.{script_of}
use Rattle.tks_vars.specs.Laws.{FramesStay}
use Rattle.tks_vars.specs.Variables.{Variables}
use Rattle.tks_vars.proofs.Framing.{itself}
use Rattle.tks_text.specs.Limits.{fits}
use Rattle.tks_event.specs.Keysyms.{is_keysym}
use Rattle.tks_event.specs.Event.{Event}
use Rattle.tks_event.specs.declared.held.Held.{Held}
use Rattle.tks_event.specs.declared.kind.Kind.{Kind}
use Rattle.tks_event.specs.declared.kind.Kind.TheVariants as kind
use Rattle.tks_event.specs.Held.{pressed, released}
use Rattle.tks_queue.specs.EventQueue as queue
use Rattle.tks_queue.specs.declared.place.Place.TheVariants as place
use Rattle.tks_state.specs.EventLoop.{is_there}
use Rattle.tks_state.specs.Rules.{number_of, numbered}
use Rattle.tks_state.specs.World.{World, queued, holding, with_clock, with_rules}
use Rattle.tks_state.specs.declared.rules.Rules.{Rules as WorldRules}
use Rattle.tks_eval.specs.Outcome.{Outcome, End, Stopped, Answer, Unknown, Comes, PassesLimit}
use Rattle.tks_eval.specs.Evaluation.{evaluate, thing_does}
use Rattle.tks_eval.specs.declared.host.Due.TheVariants as due
use Rattle.tks_eval.specs.Laws.{HostLeavesFrames}
use Rattle.tks_eval.specs.declared.host.Plan.{Plan}
use Rattle.tks_eval.specs.declared.host.Plan.TheVariants as plan
use Rattle.tks_eval.proofs.Framing.{Leaves, settled_leaves, taken_leaves, script_run_leaves}
use Rattle.tks_eval.proofs.Framing.{thing_leaves as thing_done_leaves}
use Rattle.tks_cmd.specs.Commands.{does}
use Rattle.tks_cmd.proofs.Framing.{leaves_frames}
use Rattle.tks_app.specs.Applications.{Application, Meaning}
use Rattle.tks_app.specs.Memories.{memory_of, remembering}
use Rattle.tks_app.specs.declared.answer.AppAnswer.{AppAnswer}
use Rattle.tks_vars.specs.Table.{Map}
use Rattle.tks_world.specs.Hosting.{Setting, hosting, in_setting, is_of_world, world_does, code_of, thing_taken, application_does, command_does}
use Rattle.tks_world.specs.Stepped.{Stepped, Accepts, Refuses, max_count, counted, kept}
use Rattle.tks_world.specs.Scripts.{concluded, script_ends, lent}
use Rattle.tks_world.specs.Gestures as gestures
use Rattle.tks_world.specs.Gestures.{has_room, left_by, gesture_step}
use Rattle.tks_world.specs.Keys.{key_gesture, key_step}
use Rattle.tks_world.specs.Buttons.{is_button_number, on_grid, target_at, release_target, press_gesture, release_gesture}
use Rattle.tks_world.specs.Things.{Next, next_due}
use Rattle.tks_world.specs.Telling.{told}
use Rattle.tks_world.specs.Turns.{finished, thing_runs, turned}
use Rattle.tks_world.specs.Step.{by_rules, max_clock, step}
use Rattle.tks_world.specs.Run.{Ran, went, run_of}
use Rattle.tks_world.specs.Laws.{AtRest, StepsRest, RunsRest}
use Rattle.tks_world.specs.declared.gestures.Gesture.{Gesture}
use Rattle.tks_world.specs.declared.things.Thing.{Thing}
use Rattle.tks_input.specs.declared.input.Input.{Input}
use Rattle.tks_input.specs.declared.input.Input.TheVariants.{Script, KeyPress, KeyRelease, Press, Release, Clock, Turn, Rules}

-- where none was begun none is left
none_left : (v u : Variables) → FramesStay v u → v.locals ≡ [] → u.locals ≡ []
none_left v u h none = nil_from_length u.locals (h.count ∙ ap length none)

-- ---- what comes of an input

-- a world that is left is at rest
abbrev RestsAfter : Stepped → Type 0
RestsAfter (Accepts w reply) = AtRest w
RestsAfter (Refuses why) = Unit {0}

one_of : (b : Bool) (s t : Stepped) → RestsAfter s → RestsAfter t → RestsAfter (if b then s else t)
one_of true s t h k = h
one_of false s t h k = k

counted_rests : (before : ℕ) (w : World) (memories : Map (List ℕ)) (code : ℕ) (text : List ℕ) (v : Variables) → v.locals ≡ [] → RestsAfter (counted before w memories code text v)
counted_rests before w memories code text v none = one_of (before == max_count) _ _ tt none

kept_rests : (w : World) → AtRest w → RestsAfter (kept w)
kept_rests w rest = counted_rests w.accepted w w.memories 0 [] w.variables rest

-- ---- keys, buttons, the clock

-- either of two worlds
either_rests : (b : Bool) (u w : World) → AtRest u → AtRest w → AtRest (if b then u else w)
either_rests true u w h k = h
either_rests false u w h k = k

queued_rests : (e : Event) (w : World) → AtRest w → AtRest (queued place.Tail e w)
queued_rests e w rest = either_rests (is_there w.tree.windows e.window) (record w { queue = queue.put place.Tail e w.queue }) w rest rest

took_rests : (took : Option ℕ) (w : World) → AtRest w → AtRest (gestures.remembering took w)
took_rests None w rest = rest
took_rests (Some window) w rest = rest

gesture_rests : (limits : Limits) (g : Gesture) (w : World) → AtRest w → RestsAfter (gesture_step limits g w)
gesture_rests limits g w rest =
    one_of (has_room limits g.event w) _ _ (kept_rests (left_by g w) (took_rests g.took (holding g.held (queued place.Tail g.event w)) (queued_rests g.event w rest))) tt

key_rests : (limits : Limits) (k : Kind) (key : List ℕ) (now_held : Held) (w : World) → AtRest w → RestsAfter (key_step limits k key now_held w)
key_rests limits k key now_held w rest = one_of (is_keysym key) _ _ (gesture_rests limits (key_gesture k key now_held w) w rest) tt

-- ---- scripts

module _ (m : Meaning) where
  in_setting_leaves : (s : Setting) (v : Variables) (words : List (List ℕ)) (a : Answer _) → does s.limits s.world v words ≡ a → (p : Plan) (s' : Setting) (v' : Variables) → in_setting s a ≡ Comes p s' v' → FramesStay v v'
  in_setting_leaves s v words Unknown is p s' v' e = absurd cc
  in_setting_leaves s v words PassesLimit is p s' v' e = absurd cc
  in_setting_leaves s v words (Comes q w u) is p s' v' e =
      let same : u ≡ v' = cc in
      subst (FramesStay v) same (leaves_frames s.limits s.world w v u words q is)

  world_leaves : (s : Setting) (v : Variables) (words : List (List ℕ)) (p : Plan) (s' : Setting) (v' : Variables) → world_does s v words ≡ Comes p s' v' → FramesStay v v'
  world_leaves s v words p s' v' e = in_setting_leaves s v words (does s.limits s.world v words) refl p s' v' e

  answered_leaves : (s : Setting) (v : Variables) (name : List ℕ) (a : AppAnswer) (b : Bool) (p : Plan) (s' : Setting) (v' : Variables)
      → (if b then Comes (plan.Answer (code_of a.code) a.text) (record s { memories = remembering name a.memory s.memories }) v else PassesLimit) ≡ Comes p s' v' → FramesStay v v'
  answered_leaves s v name a true p s' v' e =
      let same : v ≡ v' = cc in
      subst (FramesStay v) same (itself v)
  answered_leaves s v name a false p s' v' e = absurd cc

  named_leaves : (s : Setting) (v : Variables) (name : List ℕ) (words : List (List ℕ)) (b : Bool) (p : Plan) (s' : Setting) (v' : Variables)
      → (if b then world_does s v (name ∷ words) else application_does m s v name words) ≡ Comes p s' v' → FramesStay v v'
  named_leaves s v name words false p s' v' e =
      let a = m name (memory_of s.memories name) words in
      answered_leaves s v name a (fits s.limits a.text && fits s.limits a.memory) p s' v' e
  named_leaves s v name words true p s' v' e = world_leaves s v (name ∷ words) p s' v' e

  command_leaves : (s : Setting) (v : Variables) (words : List (List ℕ)) (p : Plan) (s' : Setting) (v' : Variables) → command_does m s v words ≡ Comes p s' v' → FramesStay v v'
  command_leaves s v [] p s' v' e = world_leaves s v [] p s' v' e
  command_leaves s v (name ∷ words) p s' v' e = named_leaves s v name words (is_of_world s.world.rules s.names name) p s' v' e

  pub hosting_leaves : HostLeavesFrames (hosting m)
  hosting_leaves = record { commands = command_leaves }

  module _ (limits : Limits) where
    script_leaves : (script : _) (s : Setting) (v : Variables) → Leaves v (script_ends m limits script s v)
    script_leaves script s v = settled_leaves limits v (script_run_leaves limits (hosting m) hosting_leaves limits.depth script s v limits.fuel)

    thing_leaves : (x : Thing) (s : Setting) (v : Variables) → Leaves v (thing_runs m limits x s v)
    thing_leaves x s v =
        taken_leaves (thing_taken s x) s v limits.fuel (thing_does (hosting m) limits (evaluate (hosting m) limits limits.depth))
        (thing_done_leaves limits (hosting m) (evaluate (hosting m) limits limits.depth) (script_run_leaves limits (hosting m) hosting_leaves limits.depth))

  module _ (limits : Limits) (s s' : Setting) (v u : Variables) (code : ℕ) (text : List ℕ) (fuel : ℕ) (none : v.locals ≡ []) where
    -- no frame stands behind a script
    pub script_rests : (script : parsed.Script) → script_ends m limits script s v ≡ End code text s' u fuel → u.locals ≡ []
    script_rests script e = none_left v u (subst (Leaves v) e (script_leaves limits script s v)).leaves none

    -- nor behind a turn's thing
    pub thing_rests : (x : Thing) → thing_runs m limits x s v ≡ End code text s' u fuel → u.locals ≡ []
    thing_rests x e = none_left v u (subst (Leaves v) e (thing_leaves limits x s v)).leaves none

  concluded_rests : (before : ℕ) (v : Variables) (o : Outcome Setting) → v.locals ≡ [] → Leaves v o → RestsAfter (concluded before o)
  concluded_rests before v (Stopped why) none h = tt
  concluded_rests before v (End code text s u fuel) none h = counted_rests before s.world s.memories code text u (none_left v u h.leaves none)

  finished_rests : (before : ℕ) (text : List ℕ) (v : Variables) (o : Outcome Setting) → v.locals ≡ [] → Leaves v o → RestsAfter (finished before text o)
  finished_rests before text v (Stopped why) none h = tt
  finished_rests before text v (End code other s u fuel) none h = counted_rests before s.world s.memories 0 text u (none_left v u h.leaves none)

  turned_rests : (limits : Limits) (next : Next) (s : Setting) (v : Variables) → v.locals ≡ [] → RestsAfter (turned m limits next s v)
  turned_rests limits None s v none = tt
  turned_rests limits (Some x) s v none = finished_rests s.world.accepted (told x.1 x.0) v _ none (thing_leaves limits x.0 (record s { world = x.1 }) v)

by_rules_rests : (rules : Option WorldRules) (w : World) → AtRest w → RestsAfter (by_rules rules w)
by_rules_rests None w rest = tt
by_rules_rests (Some rules) w rest = one_of (nat_le (number_of w.rules) (number_of rules)) _ _ (kept_rests (with_rules rules w) rest) tt

-- ---- all inputs

step_rests : (app : Application) (w : World) (input : Input) (limits : Limits) → AtRest w → RestsAfter (step app w input limits)
unfolding step
step_rests app w (Script text) limits rest =
    one_of (nat_lt limits.text (length text)) _ _ tt (concluded_rests app.meaning w.accepted w.variables _ rest (script_leaves app.meaning limits (script_of text) (lent app.names limits w) w.variables))
step_rests app w (KeyPress key) limits rest = key_rests limits kind.KeyPress key (pressed key w.held) w rest
step_rests app w (KeyRelease key) limits rest = key_rests limits kind.KeyRelease key (released key w.held) w rest
step_rests app w (Press button x y) limits rest =
    one_of (is_button_number button && on_grid w x y) _ _ (gesture_rests limits (press_gesture button x y (target_at w x y) w) w rest) tt
step_rests app w (Release button x y) limits rest =
    one_of (is_button_number button && on_grid w x y) _ _ (gesture_rests limits (release_gesture button x y (release_target w x y) w) w rest) tt
step_rests app w (Clock time) limits rest =
    one_of (nat_lt max_clock time) _ _ tt (one_of (nat_lt time w.clock) _ _ tt (kept_rests (with_clock time w) rest))
step_rests app w Turn limits rest = turned_rests app.meaning limits (next_due due.All (lent app.names limits w).world) (lent app.names limits w) w.variables rest
step_rests app w (Rules number) limits rest = by_rules_rests (numbered number) w rest

pub steps_rest : (app : Application) (limits : Limits) → StepsRest app limits
steps_rest app limits w input w' reply rest e = subst RestsAfter e (step_rests app w input limits rest)

went_rests : (w : World) (s : Stepped) (next : World → Ran) → AtRest w → RestsAfter s → ((v : World) → AtRest v → AtRest (next v).0) → AtRest (went w s next).0
went_rests w (Accepts v reply) next rest h n = n v h
went_rests w (Refuses why) next rest h n = n w rest

pub runs_rest : (app : Application) (limits : Limits) → RunsRest app limits
runs_rest app limits w [] rest = rest
runs_rest app limits w (input ∷ inputs) rest =
    went_rests w (step app w input limits) (λ v. run_of app v inputs limits) rest (step_rests app w input limits rest) (λ v k. runs_rest app limits v inputs k)
