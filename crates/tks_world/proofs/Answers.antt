-- What a call by a script comes to.
use Rattle.std.proofs.Common.{◌≡◌, ◌&&◌, ℕ, Bool, true, false, if◌then◌else◌, List, ◌∷◌, Option, Some, None, Result, Ok, Err, sym, subst, ap, ◌∙◌}
use Rattle.tks_vars.specs.Variables.{Variables}
use Rattle.tks_text.specs.Limits.{fits}
use Rattle.tks_tcl.specs.declared.stop.Stop.{Stop}
use Rattle.tks_tcl.specs.declared.stop.Stop.TheVariants as stop
use Rattle.tks_app.specs.Applications as app
use Rattle.tks_app.specs.Memories.{memory_of, remembering}
use Rattle.tks_app.specs.declared.answer.AppAnswer.{AppAnswer}
use Rattle.tks_vars.specs.Table.{Map}
use Rattle.tks_state.specs.World.{World}
use Rattle.tks_cmd.specs.Meets.{LimitsSo}
use Rattle.tks_eval.specs.Outcome.{Answer, Comes, PassesLimit}
use Rattle.tks_eval.specs.Meets.{AnswersSo, TakesSo}
use Rattle.tks_eval.specs.declared.host.Due.{Due}
use Rattle.tks_eval.specs.declared.host.Plan.{Plan}
use Rattle.tks_eval.specs.declared.host.Plan.TheVariants as plan
use Rattle.tks_world.specs.Hosting.{Setting, code_of, in_setting, is_of_world, world_does, taken_in, thing_taken, next_taken, answered, application_does, command_does}
use Rattle.tks_world.specs.Things.{next_due, planned}
use Rattle.tks_world.specs.Meets.{CallsSo, PlansSo}
use Rattle.tks_world.specs.declared.things.Thing.{Thing}

-- the same answer, in a setting
pub in_setting_so : (s : Setting) (answer : Answer World) (result : Result (Option Plan) Stop) (new : World) (before after : Variables)
    → AnswersSo answer result s.world new before after → AnswersSo (in_setting s answer) result s (record s { world = new }) before after
in_setting_so s answer (Ok None) new before after h = (ap (in_setting s) h.0, ap (λ w. record s { world = w }) h.1, h.2)
in_setting_so s answer (Ok (Some p)) new before after h = ap (in_setting s) h
in_setting_so s answer (Err stop.TooLarge) new before after h = ap (in_setting s) h
in_setting_so s answer (Err stop.NoMemory) new before after h = tt
in_setting_so s answer (Err stop.Budget) new before after h = absurd h
in_setting_so s answer (Err stop.Depth) new before after h = absurd h

-- ---- commands of the application

-- a plan comes of a command's
abbrev with_plan : Result Plan Stop → Result (Option Plan) Stop
with_plan (Ok p) = Ok (Some p)
with_plan (Err why) = Err why

module _ (s : Setting) (variables : Variables) (name : List ℕ) (a : AppAnswer) where
  answered_so : (p : Plan) (new : Map (List ℕ)) → CallsSo s.limits name a (Ok p) s.memories new → answered s variables name a ≡ Comes p (record s { memories = new }) variables
  answered_so p new h =
      ap (λ (b : Bool). if b then Comes (plan.Answer (code_of a.code) a.text) (record s { memories = remembering name a.memory s.memories }) variables else PassesLimit) h.0
      ∙ (λ i. Comes (sym h.1 i) (record s { memories = sym h.2 i }) variables)

  over_limit : fits s.limits a.text && fits s.limits a.memory ≡ false → answered s variables name a ≡ PassesLimit
  over_limit h = ap (λ (b : Bool). if b then Comes (plan.Answer (code_of a.code) a.text) (record s { memories = remembering name a.memory s.memories }) variables else PassesLimit) h

  call_so : (result : Result Plan Stop) (new : Map (List ℕ)) → CallsSo s.limits name a result s.memories new
      → AnswersSo (answered s variables name a) (with_plan result) s (record s { memories = new }) variables variables
  call_so (Ok p) new h = answered_so p new h
  call_so (Err stop.TooLarge) new h = over_limit h
  call_so (Err stop.NoMemory) new h = tt
  call_so (Err stop.Budget) new h = absurd h
  call_so (Err stop.Depth) new h = absurd h

module _ (m : app.Meaning) (s t : Setting) (variables : Variables) (name : List ℕ) (words : List (List ℕ)) where
  -- a name that the application has, and no built-in command
  pub application_so : (result : Result Plan Stop) → is_of_world s.world.rules s.names name ≡ false → CallsSo s.limits name (m name (memory_of s.memories name) words) result s.memories t.memories
      → t ≡ record s { memories = t.memories } → AnswersSo (command_does m s variables (name ∷ words)) (with_plan result) s t variables variables
  application_so result there h others =
      subst (λ (b : Bool). AnswersSo (if b then world_does s variables (name ∷ words) else application_does m s variables name words) (with_plan result) s t variables variables) (sym there)
      (subst (λ u. AnswersSo (application_does m s variables name words) (with_plan result) s u variables variables) (sym others)
      (call_so s variables name (m name (memory_of s.memories name) words) result t.memories h))

  -- another name
  pub other_so : (result : Result (Option Plan) Stop) (after : Variables) → is_of_world s.world.rules s.names name ≡ true → AnswersSo (world_does s variables (name ∷ words)) result s t variables after
      → AnswersSo (command_does m s variables (name ∷ words)) result s t variables after
  other_so result after there h =
      subst (λ (b : Bool). AnswersSo (if b then world_does s variables (name ∷ words) else application_does m s variables name words) result s t variables after) (sym there) h

-- ---- what waits

-- what a thing wants done, in a setting
pub plans_so : (s : Setting) (x : Thing) (result : Result Plan Stop) (new : World) → LimitsSo (λ p. (p, new)) result (planned s.limits x s.world)
    → PlansSo (thing_taken s x) result (record s { world = new })
plans_so s x (Ok p) new h = ap (taken_in s) h
plans_so s x (Err stop.TooLarge) new h = ap (taken_in s) h
plans_so s x (Err stop.NoMemory) new h = tt
plans_so s x (Err stop.Budget) new h = absurd h
plans_so s x (Err stop.Depth) new h = absurd h

-- the next thing, taken out
pub next_so : (s : Setting) (due : Due) (x : Thing) (left : World) (result : Result Plan Stop) (t : Setting) → next_due due s.world ≡ Some (x, left)
    → PlansSo (thing_taken (record s { world = left }) x) result t → TakesSo (next_taken s (next_due due s.world)) (with_plan result) s t
next_so s due x left (Ok p) t next h = ap (next_taken s) next ∙ h
next_so s due x left (Err stop.TooLarge) t next h = ap (next_taken s) next ∙ h
next_so s due x left (Err stop.NoMemory) t next h = tt
next_so s due x left (Err stop.Budget) t next h = absurd h
next_so s due x left (Err stop.Depth) t next h = absurd h
