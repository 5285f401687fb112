-- A step keeps the world within the limits, on its grid and with memories of the same names.
use Rattle.std.proofs.Common.{◌≡◌, ℕ, ◌-◌, ◌==◌, nat_lt, ◌&&◌, true, true≢false, List, [], ◌∷◌, ◌++◌, length, Some, None, Result, Ok, Err, IfOk, refl, sym, subst, ◌∙◌}
use Rattle.std.specs.FinMap as fin
use Rattle.std.proofs.lemmas.Bool.{and_parts, cond_both}
use Rattle.tks_text.specs.Size.{Extent}
use Rattle.tks_text.specs.Limits.{fits}
use Rattle.tks_text.specs.declared.limits.Limits.{Limits}
use Rattle.tks_parse.specs.Reading.{script_of}
use Rattle.tks_vars.specs.Table.{Map}
use Rattle.tks_vars.specs.Variables.{Variables}
use Rattle.tks_app.specs.Applications as application
use Rattle.tks_app.specs.Applications.{Application}
use Rattle.tks_app.specs.Memories.{memory_of, remembering}
use Rattle.tks_app.specs.declared.answer.AppAnswer.{AppAnswer}
use Rattle.tks_input.specs.declared.input.Input.{Input}
use Rattle.tks_input.specs.declared.input.Input.TheVariants.{Script, KeyPress, KeyRelease, Press, Release, Clock, Turn, Rules}
use Rattle.tks_input.specs.declared.reply.Reply.{Reply}
use Rattle.tks_limits.specs.Within.{memories_fit, within}
use Rattle.tks_state.specs.World.{World, with_fault}
use Rattle.tks_eval.specs.Outcome.{Outcome, End, Stopped, Answer, Unknown, Comes, PassesLimit}
use Rattle.tks_eval.specs.declared.host.Due.TheVariants as due
use Rattle.tks_eval.specs.declared.host.Plan.{Plan}
use Rattle.tks_tcl.specs.Cause.{Cause}
use Rattle.tks_cmd.specs.Commands.{does}
use Rattle.tks_world.specs.Stepped.{Accepts, counted}
use Rattle.tks_world.specs.Hosting as hosting
use Rattle.tks_world.specs.Hosting.{Setting, in_setting, world_does, is_of_world, taken_in, thing_taken, next_taken, application_does, stripped}
use Rattle.tks_world.specs.Scripts.{concluded, script_ends, lent, script_step}
use Rattle.tks_world.specs.Step.{step}
use Rattle.tks_world.specs.Things.{Next, next_due, planned}
use Rattle.tks_world.specs.Turns.{finished, thing_runs, turned, turn_step}
use Rattle.tks_world.specs.Telling.{told}
use Rattle.tks_world.specs.declared.things.Thing.{Thing}
use Rattle.tks_world.specs.declared.things.Thing.TheVariants as thing
use Rattle.tks_keeping.specs.Fitting.{WorldFits, PlanFits, AnswerFits, TakenFits, HostFits}
use Rattle.tks_keeping.proofs.Texts.{TextFits, TextsFit, first_word}
use Rattle.tks_keeping.proofs.Variables.{VariablesFit}
use Rattle.tks_keeping.proofs.Lists.{one_so, pushed_so, behind_so}
use Rattle.tks_keeping.proofs.Tables.{insert_fits, keys_stay}
use Rattle.tks_keeping.proofs.Scripts.{EndFits, evaluate_fits, settled_fits, taken_fits}
use Rattle.tks_keeping.proofs.Delivered.{begun_fits}
use Rattle.tks_keeping.proofs.Commands.{does_fits}
use Rattle.tks_keeping.proofs.Inputs.{WholeFits, StepFits, within_opened, within_closed, counted_keeps, key_press_keeps, key_release_keeps, press_keeps, release_keeps, clock_keeps, rules_keeps, ThingFits, NextFits, due_fits}

-- ---- what the world is to its scripts

-- another text under a name that is there
remembers : (limits : Limits) (name text : List ℕ) (memories : Map (List ℕ)) → TextFits limits name → TextFits limits text → memories_fit limits memories ≡ true
    → (memories_fit limits (remembering name text memories) ≡ true) × (fin.keys (remembering name text memories) ≡ fin.keys memories)
remembers limits name text memories f g h =
    cond_both (fin.contains_key memories name) (fin.insert memories name text) memories (λ n. (memories_fit limits n ≡ true) × (fin.keys n ≡ fin.keys memories))
    (λ there. (insert_fits limits (fits limits) memories name text f g (λ none. absurd (true≢false (sym there ∙ none))) h, keys_stay memories name text there))
    (λ _. (h, refl))

module _ (limits : Limits) (grid : Extent) (names : List (List ℕ)) where
  -- what scripts change beside variables fits, and has memories of these names
  pub record SettingFits (s : Setting) : Type 0 where
    pub world : WorldFits limits grid s.world
    pub memories : memories_fit limits s.memories ≡ true
    pub limited : s.limits ≡ limits
    pub named : fin.keys s.memories ≡ names

  in_setting_fits : (s : Setting) → SettingFits s → (answer : Answer World) → AnswerFits limits (WorldFits limits grid) answer → AnswerFits limits SettingFits (in_setting s answer)
  in_setting_fits s h Unknown a = tt
  in_setting_fits s h PassesLimit a = tt
  in_setting_fits s h (Comes p w v) a = (a.0, record { world = a.1; memories = h.memories; limited = h.limited; named = h.named }, a.2)

  world_does_fits : (s : Setting) → SettingFits s → (v : Variables) → VariablesFit limits v → (words : List (List ℕ)) → TextsFit limits words → AnswerFits limits SettingFits (world_does s v words)
  world_does_fits s h v f words all =
      subst (λ l. AnswerFits limits SettingFits (in_setting s (does l s.world v words))) (sym h.limited)
      (in_setting_fits s h (does limits s.world v words) (does_fits limits grid s.world v words h.world f all))

  told_fits : (s : Setting) → SettingFits s → (v : Variables) → VariablesFit limits v → (name : List ℕ) → TextFits limits name → (a : AppAnswer)
      → AnswerFits limits SettingFits (hosting.answered s v name a)
  told_fits s h v f name k a =
      cond_both (fits s.limits a.text && fits s.limits a.memory) _ PassesLimit (AnswerFits limits SettingFits) (λ holds.
      let both = and_parts (fits limits a.text) (fits limits a.memory) (subst (λ l. (fits l a.text && fits l a.memory) ≡ true) h.limited holds) in
      let kept = remembers limits name a.memory s.memories k both.1 h.memories in
      (both.0, record { world = h.world; memories = kept.0; limited = h.limited; named = kept.1 ∙ h.named }, f)) (λ _. tt)

  -- ---- what waits

  -- what a thing wants done
  planned_fits : (x : Thing) (w : World) → ThingFits limits x → WorldFits limits grid w → IfOk (planned limits x w) (λ y. PlanFits limits y.0 × WorldFits limits grid y.1)
  planned_fits (thing.Event e) w t h = begun_fits limits grid w e t h
  planned_fits (thing.Timer id script) w t h = (tt, h)
  planned_fits (thing.Idle id script) w t h = (tt, h)

  taken_in_fits : (s : Setting) → SettingFits s → (r : Result (Plan × World) Cause) → IfOk r (λ y. PlanFits limits y.0 × WorldFits limits grid y.1) → TakenFits limits SettingFits (taken_in s r)
  taken_in_fits s h (Ok x) k = (k.0, record { world = k.1; memories = h.memories; limited = h.limited; named = h.named })
  taken_in_fits s h (Err why) k = tt

  thing_taken_fits : (x : Thing) (s : Setting) → ThingFits limits x → SettingFits s → TakenFits limits SettingFits (thing_taken s x)
  thing_taken_fits x s t h =
      subst (λ l. TakenFits limits SettingFits (taken_in s (planned l x s.world))) (sym h.limited)
      (taken_in_fits s h (planned limits x s.world) (planned_fits x s.world t h.world))

  next_taken_fits : (next : Next) (s : Setting) → NextFits limits grid next → SettingFits s → TakenFits limits SettingFits (next_taken s next)
  next_taken_fits None s n h = tt
  next_taken_fits (Some x) s n h =
      thing_taken_fits x.0 (record s { world = x.1 }) n.0 (record { world = n.1; memories = h.memories; limited = h.limited; named = h.named })

  module _ (m : application.Meaning) where
    commands_fit : (s : Setting) → SettingFits s → (v : Variables) → VariablesFit limits v → (words : List (List ℕ)) → TextsFit limits words
        → AnswerFits limits SettingFits (hosting.command_does m s v words)
    commands_fit s h v f [] all = world_does_fits s h v f [] all
    commands_fit s h v f (name ∷ words) all =
        one_so (AnswerFits limits SettingFits) (is_of_world s.world.rules s.names name) (world_does s v (name ∷ words)) (application_does m s v name words) (world_does_fits s h v f (name ∷ words) all)
        (told_fits s h v f name (first_word limits name words all) (m name (memory_of s.memories name) words))

    faulted_fits : (s : Setting) → SettingFits s → (text : List ℕ) → TextFits limits text → SettingFits (record s { world = with_fault text s.world })
    faulted_fits s h text f = record {
      world = record {
        on_grid = h.world.on_grid;
        windows = h.world.windows;
        events = h.world.events;
        faults = behind_so (fits limits) (length (s.world.faults ++ text ∷ []) - 32) (s.world.faults ++ text ∷ []) (pushed_so (fits limits) s.world.faults text h.world.faults f);
      };
      memories = h.memories;
      limited = h.limited;
      named = h.named;
    }

    host_fits : HostFits limits SettingFits (hosting.hosting m)
    host_fits = record { commands = commands_fit; faulted = faulted_fits; next = λ due s h. next_taken_fits (next_due due s.world) s (due_fits limits grid due s.world h.world) h }

    -- ---- scripts

    script_ends_fit : (script : List ℕ) (s : Setting) (v : Variables) → SettingFits s → VariablesFit limits v → EndFits limits SettingFits (script_ends m limits (script_of script) s v)
    script_ends_fit script s v h f =
        settled_fits limits SettingFits _ (evaluate_fits limits SettingFits (hosting.hosting m) host_fits limits.depth (script_of script) s h v f limits.fuel)

    thing_fits : (x : Thing) (s : Setting) (v : Variables) → ThingFits limits x → SettingFits s → VariablesFit limits v → EndFits limits SettingFits (thing_runs m limits x s v)
    thing_fits x s v t h f = taken_fits limits SettingFits (hosting.hosting m) host_fits limits.depth (thing_taken s x) (thing_taken_fits x s t h) s h v f limits.fuel

-- ---- inputs

module _ (limits : Limits) (grid : Extent) (names : List (List ℕ)) where
  counted_fits : (before : ℕ) (s : Setting) (code : ℕ) (text : List ℕ) (v : Variables) → SettingFits limits grid names s → VariablesFit limits v
      → StepFits limits grid names (counted before s.world s.memories code text v)
  counted_fits before s code text v h f = counted_keeps limits grid names before s.world s.memories code text v h.world f h.memories h.named

  concluded_keeps : (before : ℕ) (o : Outcome Setting) → EndFits limits (SettingFits limits grid names) o → StepFits limits grid names (concluded before o)
  concluded_keeps before (Stopped why) h = tt
  concluded_keeps before (End code text s v fuel) h = counted_fits before s code text v h.1 h.2

  finished_keeps : (before : ℕ) (said : List ℕ) (o : Outcome Setting) → EndFits limits (SettingFits limits grid names) o → StepFits limits grid names (finished before said o)
  finished_keeps before said (Stopped why) h = tt
  finished_keeps before said (End code text s v fuel) h = counted_fits before s 0 said v h.1 h.2

  lent_fits : (app : Application) (w : World) → WholeFits limits grid names w → SettingFits limits grid names (lent app.names limits w)
  lent_fits app w h =
      record {
        world = record { on_grid = h.world.on_grid; windows = h.world.windows; events = h.world.events; faults = h.world.faults };
        memories = h.memories;
        limited = refl;
        named = h.named;
      }

  script_keeps : (app : Application) (w : World) (text : List ℕ) → WholeFits limits grid names w → StepFits limits grid names (script_step app w text limits)
  script_keeps app w text h =
      one_so (StepFits limits grid names) (nat_lt limits.text (length text)) _ _ tt
      (concluded_keeps w.accepted _ (script_ends_fit limits grid names app.meaning text (lent app.names limits w) w.variables (lent_fits app w h) h.variables))

  turned_keeps : (app : Application) (next : Next) (s : Setting) (v : Variables) → SettingFits limits grid names s → VariablesFit limits v → NextFits limits grid next
      → StepFits limits grid names (turned app.meaning limits next s v)
  turned_keeps app None s v h f k = tt
  turned_keeps app (Some x) s v h f k =
      finished_keeps s.world.accepted (told x.1 x.0) _
      (thing_fits limits grid names app.meaning x.0 (record s { world = x.1 }) v k.0 (record { world = k.1; memories = h.memories; limited = h.limited; named = h.named }) f)

  turn_keeps : (app : Application) (w : World) → WholeFits limits grid names w → StepFits limits grid names (turn_step app limits w)
  turn_keeps app w h =
      let s = lent app.names limits w in
      let fit = lent_fits app w h in
      turned_keeps app (next_due due.All s.world) s w.variables fit h.variables (due_fits limits grid due.All s.world fit.world)

  step_keeps : (app : Application) (w : World) (input : Input) → WholeFits limits grid names w → StepFits limits grid names (step app w input limits)
  unfolding step
  step_keeps app w (Script text) h = script_keeps app w text h
  step_keeps app w (KeyPress key) h = key_press_keeps limits grid names key w h
  step_keeps app w (KeyRelease key) h = key_release_keeps limits grid names key w h
  step_keeps app w (Press button x y) h = press_keeps limits grid names button x y w h
  step_keeps app w (Release button x y) h = release_keeps limits grid names button x y w h
  step_keeps app w (Clock time) h = clock_keeps limits grid names time w h
  step_keeps app w Turn h = turn_keeps app w h
  step_keeps app w (Rules number) h = rules_keeps limits grid names number w h

-- a world within the limits stays within them, on its grid, and has memories of the names of which it had them
pub steps_keep : (app : Application) (limits : Limits) (old : World) (input : Input) (new : World) (reply : Reply) → step app old input limits ≡ Accepts new reply → within limits old ≡ true
    → (within limits new ≡ true) × (new.grid ≡ old.grid) × (fin.keys new.memories ≡ fin.keys old.memories)
steps_keep app limits old input new reply e h =
    let names = fin.keys old.memories in
    let fit = subst (λ s. StepFits limits old.grid names s) e (step_keeps limits old.grid names app old input (within_opened limits old h)) in
    (within_closed limits old.grid names new fit, fit.world.on_grid, fit.named)
