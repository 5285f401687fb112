-- The count of inputs.
use Rattle.std.proofs.Common.{◌≡◌, ℕ, ◌+◌, ◌==◌, ◌<◌, ◌&&◌, Bool, true, false, if◌then◌else◌, List, [], length, Option, Some, None, refl, ◌∙◌, subst, arith}
use Rattle.std.specs.Prelude.{nat_le, nat_lt}
use Rattle.std.proofs.lemmas.Bool.{eqb-true}
use Rattle.tks_event.specs.Event.{Event}
use Rattle.tks_queue.specs.EventQueue as queue
use Rattle.tks_queue.specs.declared.place.Place.{Place}
use Rattle.tks_queue.specs.declared.place.Place.TheVariants as place
use Rattle.tks_state.specs.EventLoop.{is_there}
use Rattle.tks_state.specs.World.{World, queued}
use Rattle.tks_text.specs.declared.limits.Limits.{Limits}
use Rattle.tks_parse.specs.Reading.{script_of}
use Rattle.tks_event.specs.Held.{pressed, released}
use Rattle.tks_event.specs.Keysyms.{is_keysym}
use Rattle.tks_event.specs.declared.kind.Kind.TheVariants as kind
use Rattle.tks_vars.specs.Table.{Map}
use Rattle.tks_vars.specs.Variables.{Variables}
use Rattle.tks_app.specs.Applications.{Application, Meaning}
use Rattle.tks_state.specs.Rules.{number_of, numbered}
use Rattle.tks_state.specs.World.{with_clock, with_rules}
use Rattle.tks_state.specs.declared.rules.Rules.{Rules as WorldRules}
use Rattle.tks_eval.specs.Outcome.{Outcome, End, Stopped}
use Rattle.tks_eval.specs.declared.host.Due.TheVariants as due
use Rattle.tks_world.specs.Buttons.{is_button_number, on_grid, target_at, release_target, press_gesture, release_gesture}
use Rattle.tks_world.specs.Gestures.{has_room, left_by, remembering, gesture_step}
use Rattle.tks_world.specs.Hosting.{Setting}
use Rattle.tks_world.specs.Keys.{key_gesture}
use Rattle.tks_world.specs.Laws.{StepsCount}
use Rattle.tks_world.specs.Scripts.{concluded, script_ends, lent}
use Rattle.tks_world.specs.Step.{step, by_rules, max_clock}
use Rattle.tks_world.specs.Stepped.{Stepped, Accepts, Refuses, max_count, counted, kept}
use Rattle.tks_world.specs.Telling.{told}
use Rattle.tks_world.specs.Things.{Next, next_due}
use Rattle.tks_world.specs.Turns.{finished, thing_runs, turned}
use Rattle.tks_world.specs.declared.gestures.Gesture.{Gesture}
use Rattle.tks_input.specs.declared.input.Input.{Input}
use Rattle.tks_input.specs.declared.input.Input.TheVariants.{Script, KeyPress, KeyRelease, Press, Release, Clock, Turn, Rules}

-- a count below the greatest isn't it
pub is_below : (n : ℕ) → n < max_count → (n == max_count) ≡ false
is_below n h = by (n == max_count) refl
  where
    by : (b : Bool) → (n == max_count) ≡ b → b ≡ false
    by false e = refl
    by true e = let same = eqb-true n max_count e in absurd (omega (arith, h, same))

-- an event that waits doesn't change it
queued_counts : (p : Place) (e : Event) (w : World) → (queued p e w).accepted ≡ w.accepted
queued_counts p e w = by (is_there w.tree.windows e.window)
  where
    by : (b : Bool) → (if b then record w { queue = queue.put p e w.queue } else w).accepted ≡ w.accepted
    by true = refl
    by false = refl

remembering_counts : (took : Option ℕ) (w : World) → (remembering took w).accepted ≡ w.accepted
remembering_counts None w = refl
remembering_counts (Some window) w = refl

-- nor does what a gesture leaves
pub left_by_counts : (g : Gesture) (w : World) → w.accepted < max_count → (left_by g w).accepted < max_count
left_by_counts g w h = rw (remembering_counts g.took _, queued_counts place.Tail g.event w) h

left_same : (g : Gesture) (w : World) → (left_by g w).accepted ≡ w.accepted
left_same g w = remembering_counts g.took _ ∙ queued_counts place.Tail g.event w

-- ---- an accepted input is counted

-- the world and the reply behind so many
abbrev CountsOne : ℕ → Stepped → Type 0
CountsOne before (Accepts world reply) = (world.accepted ≡ before + 1) × (reply.number ≡ before + 1)
CountsOne before (Refuses why) = Unit {0}

either : (before : ℕ) (b : Bool) (s t : Stepped) → CountsOne before s → CountsOne before t → CountsOne before (if b then s else t)
either before true s t h k = h
either before false s t h k = k

counted_counts : (before : ℕ) (w : World) (memories : Map (List ℕ)) (code : ℕ) (text : List ℕ) (v : Variables) → CountsOne before (counted before w memories code text v)
counted_counts before w memories code text v = either before (before == max_count) _ _ tt (refl, refl)

kept_counts : (before : ℕ) (w : World) → w.accepted ≡ before → CountsOne before (kept w)
kept_counts before w same = subst (λ n. CountsOne n (kept w)) same (counted_counts w.accepted w w.memories 0 [] w.variables)

gesture_counts : (limits : Limits) (g : Gesture) (w : World) → CountsOne w.accepted (gesture_step limits g w)
gesture_counts limits g w = either w.accepted (has_room limits g.event w) _ _ (kept_counts w.accepted (left_by g w) (left_same g w)) tt

concluded_counts : (before : ℕ) (o : Outcome Setting) → CountsOne before (concluded before o)
concluded_counts before (Stopped why) = tt
concluded_counts before (End code text s v fuel) = counted_counts before s.world s.memories code text v

turned_counts : (m : Meaning) (limits : Limits) (next : Next) (s : Setting) (v : Variables) → CountsOne s.world.accepted (turned m limits next s v)
turned_counts m limits None s v = tt
turned_counts m limits (Some x) s v = by (thing_runs m limits x.0 (record s { world = x.1 }) v)
  where
    by : (o : Outcome Setting) → CountsOne s.world.accepted (finished s.world.accepted (told x.1 x.0) o)
    by (Stopped why) = tt
    by (End code text t u fuel) = counted_counts s.world.accepted t.world t.memories 0 (told x.1 x.0) u

by_rules_counts : (rules : Option WorldRules) (w : World) → CountsOne w.accepted (by_rules rules w)
by_rules_counts None w = tt
by_rules_counts (Some rules) w = either w.accepted (nat_le (number_of w.rules) (number_of rules)) _ _ (kept_counts w.accepted (with_rules rules w) refl) tt

step_counts : (app : Application) (w : World) (input : Input) (limits : Limits) → CountsOne w.accepted (step app w input limits)
unfolding step
step_counts app w (Script text) limits =
    either w.accepted (nat_lt limits.text (length text)) _ _ tt (concluded_counts w.accepted (script_ends app.meaning limits (script_of text) (lent app.names limits w) w.variables))
step_counts app w (KeyPress key) limits = either w.accepted (is_keysym key) _ _ (gesture_counts limits (key_gesture kind.KeyPress key (pressed key w.held) w) w) tt
step_counts app w (KeyRelease key) limits = either w.accepted (is_keysym key) _ _ (gesture_counts limits (key_gesture kind.KeyRelease key (released key w.held) w) w) tt
step_counts app w (Press button x y) limits =
    either w.accepted (is_button_number button && on_grid w x y) _ _ (gesture_counts limits (press_gesture button x y (target_at w x y) w) w) tt
step_counts app w (Release button x y) limits =
    either w.accepted (is_button_number button && on_grid w x y) _ _ (gesture_counts limits (release_gesture button x y (release_target w x y) w) w) tt
step_counts app w (Clock time) limits =
    either w.accepted (nat_lt max_clock time) _ _ tt (either w.accepted (nat_lt time w.clock) _ _ tt (kept_counts w.accepted (with_clock time w) refl))
step_counts app w Turn limits = turned_counts app.meaning limits (next_due due.All (lent app.names limits w).world) (lent app.names limits w) w.variables
step_counts app w (Rules number) limits = by_rules_counts (numbered number) w

pub steps_count : (app : Application) (limits : Limits) → StepsCount app limits
steps_count app limits w input w' reply e = subst (CountsOne w.accepted) e (step_counts app w input limits)
