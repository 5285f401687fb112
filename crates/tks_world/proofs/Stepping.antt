-- What the run of an input's script says of the step, and what doing one thing says of a turn.
use Rattle.std.proofs.Common.{◌≡◌, ℕ, ◌≤◌, Bool, true, false, if◌then◌else◌, ltb, List, length, Some, Result, Ok, Err, refl, sym, subst, ap, arith}
use Rattle.std.proofs.lemmas.Bool.{ltb-true}
use Rattle.tks_text.specs.declared.limits.Limits.{Limits}
use Rattle.tks_parse.specs.Tree as tree
use Rattle.tks_parse.specs.Reading.{script_of}
use Rattle.tks_vars.specs.Variables.{Variables}
use Rattle.tks_tcl.specs.declared.stop.Stop.{Stop}
use Rattle.tks_tcl.specs.declared.stop.Stop.TheVariants as stop
use Rattle.tks_state.specs.World.{World}
use Rattle.tks_eval.specs.Outcome.{Outcome, Takes, after_taken}
use Rattle.tks_eval.specs.Meets.{EndsSo, StopsSo}
use Rattle.tks_eval.specs.Evaluation.{evaluate, thing_does}
use Rattle.tks_eval.specs.declared.ended.Ended.{Ended}
use Rattle.tks_eval.specs.declared.host.Plan.{Plan}
use Rattle.tks_eval.specs.declared.host.Due.TheVariants as due
use Rattle.tks_app.specs.Applications.{Application, Meaning}
use Rattle.tks_vars.specs.Table.{Map}
use Rattle.tks_world.specs.Hosting.{Setting, hosting, stripped, thing_taken}
use Rattle.tks_world.specs.Scripts.{concluded, script_ends, lent, script_step}
use Rattle.tks_world.specs.Things.{next_due}
use Rattle.tks_world.specs.Telling.{told}
use Rattle.tks_world.specs.Turns.{finished, thing_runs, turned, turn_does}
use Rattle.tks_world.specs.Stepped.{Refuses}
use Rattle.tks_world.specs.Meets.{RefusedSo, ReachesSo, PlansSo, refused_by}
use Rattle.tks_world.specs.declared.things.Thing.{Thing}
use Rattle.tks_input.specs.declared.reply.Reply.{Reply}
use Rattle.tks_input.specs.declared.reply.Refused.{Refused}
use Rattle.tks_input.specs.declared.reply.Refused.TheVariants.{BadInput}

-- a stop refuses the input
pub refuses : (before : ℕ) (o : Outcome Setting) (why : Stop) → StopsSo o why → RefusedSo (refused_by why) (concluded before o)
refuses before o stop.Budget h = ap (concluded before) h
refuses before o stop.Depth h = ap (concluded before) h
refuses before o stop.TooLarge h = ap (concluded before) h
refuses before o stop.NoMemory h = tt

not_over : (n limit : ℕ) → n ≤ limit → ltb limit n ≡ false
not_over n limit le = by (ltb limit n) refl
  where
    by : (b : Bool) → ltb limit n ≡ b → b ≡ false
    by false e = refl
    by true e = let l = ltb-true limit n e in absurd (omega (arith, l, le))

-- a script within the limit is run in the world that it is lent
pub runs : (app : Application) (w : World) (text : List ℕ) (limits : Limits) → length text ≤ limits.text
    → script_step app w text limits ≡ concluded w.accepted (script_ends app.meaning limits (script_of text) (lent app.names limits w) w.variables)
runs app w text limits short =
    ap (λ (b : Bool). if b then Refuses BadInput else concluded w.accepted (script_ends app.meaning limits (script_of text) (lent app.names limits w) w.variables)) (not_over (length text) limits.text short)

module _ (m : Meaning) (limits : Limits) (x : Thing) (s : Setting) (variables : Variables) where
  -- what goes on behind what a thing wants done
  abbrev goes : Plan → Setting → Variables → ℕ → Outcome Setting
  goes = thing_does (hosting m) limits (evaluate (hosting m) limits limits.depth)

  -- a thing does what its plan says
  pub plan_ends : (p : Plan) (mid new : Setting) (result : Result Ended Stop) (after : Variables) → thing_taken s x ≡ Takes p mid → EndsSo (goes p mid variables limits.fuel) result new after
      → EndsSo (thing_runs m limits x s variables) result new after
  plan_ends p mid new result after h e = subst (λ o. EndsSo o result new after) (sym (ap (λ t. after_taken t s variables limits.fuel goes) h)) e

  -- one without a plan stops
  pub plan_stops : (t : Setting) (why : Stop) → PlansSo (thing_taken s x) (Err why) t → StopsSo (thing_runs m limits x s variables) why
  plan_stops t stop.TooLarge h = ap (λ t. after_taken t s variables limits.fuel goes) h
  plan_stops t stop.NoMemory h = tt
  plan_stops t stop.Budget h = absurd h
  plan_stops t stop.Depth h = absurd h

-- what is taken out is done in the world without it, and what is told of it is told before
pub does_next : (m : Meaning) (limits : Limits) (setting : Setting) (variables : Variables) (x : Thing) (left : World) (text : List ℕ) (result : Result Reply Refused) (new : World)
    → next_due due.All setting.world ≡ Some (x, left) → text ≡ told left x
    → ReachesSo (finished setting.world.accepted text (thing_runs m limits x (record setting { world = left }) variables)) result new → ReachesSo (turn_does m limits setting variables) result new
does_next m limits setting variables x left text result new next is h =
    subst (λ n. ReachesSo (turned m limits n setting variables) result new) (sym next)
    (subst (λ t. ReachesSo (finished setting.world.accepted t (thing_runs m limits x (record setting { world = left }) variables)) result new) is h)

-- what holds of what was taken apart holds of the world as it is lent
module _ (names : List (List ℕ)) (limits : Limits) (w left : World) (memories : Map (List ℕ)) (variables : Variables) (given : variables ≡ w.variables) (kept : memories ≡ w.memories)
    (bare : left ≡ stripped w) where
  whole : (P : Setting → Variables → Type 0) → P (record { world = left; memories = memories; limits = limits; names = names }) variables → P (lent names limits w) w.variables
  whole P h =
      subst (λ v. P (lent names limits w) v) given
      (subst (λ m. P (record { world = stripped w; memories = m; limits = limits; names = names }) variables) kept
      (subst (λ l. P (record { world = l; memories = memories; limits = limits; names = names }) variables) bare h))

  -- a script in it
  pub script_reaches : (m : Meaning) (script : tree.Script) (result : Result Reply Refused) (new : World)
      → ReachesSo (concluded left.accepted (script_ends m limits script (record { world = left; memories = memories; limits = limits; names = names }) variables)) result new
      → ReachesSo (concluded w.accepted (script_ends m limits script (lent names limits w) w.variables)) result new
  script_reaches m script result new h = whole (λ s v. ReachesSo (concluded s.world.accepted (script_ends m limits script s v)) result new) h

  -- a turn in it
  pub turn_reaches : (m : Meaning) (result : Result Reply Refused) (new : World)
      → ReachesSo (turn_does m limits (record { world = left; memories = memories; limits = limits; names = names }) variables) result new
      → ReachesSo (turn_does m limits (lent names limits w) w.variables) result new
  turn_reaches m result new h = whole (λ s v. ReachesSo (turn_does m limits s v) result new) h
