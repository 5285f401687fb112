-- A run leaves the frames below the innermost, where the commands of its host do.
use Rattle.std.proofs.Common.{◌≡◌, ℕ, zero, suc, ◌==◌, ◌||◌, Bool, true, false, if◌then◌else◌, List, [], ◌∷◌, ◌++◌, codes, Option, Some, None, Result, Ok, Err, IfOk, refl, subst}
use Rattle.std.specs.Prelude.{is_some, nat_le, nat_lt}
use Rattle.std.specs.List.{list_all}
use Rattle.std.specs.Fmt.{decimal}
use Rattle.std.specs.FinMap as map
use Rattle.tks_text.specs.Fault.{fault_about, fault_text}
use Rattle.tks_text.specs.declared.fault.ErrorNumber.TheVariants.{WrongWords, OutsideLoop}
use Rattle.tks_text.specs.declared.fault.ScriptFault.{ScriptFault}
use Rattle.tks_text.specs.declared.limits.Limits.{Limits}
use Rattle.tks_parse.specs.Tree.{Script, no_command, faulty, command, Words, no_word, word, Parts, no_part, char, variable, element, nested}
use Rattle.tks_parse.specs.Reading.{script_of}
use Rattle.tks_vars.specs.Laws.{FramesStay}
use Rattle.tks_vars.specs.Variables.{Variables, Frame, pushed_global, frame_of}
use Rattle.tks_vars.specs.declared.procedure.Argument.{Argument}
use Rattle.tks_vars.specs.declared.procedure.Procedure.{Procedure}
use Rattle.tks_vars.proofs.Framing.{itself, both, popped_stays, defined_stays}
use Rattle.tks_tcl.specs.Cause as tcl
use Rattle.tks_tcl.specs.Cause.{Fault, OverLimit, value_or_fault, bare, within}
use Rattle.tks_text.specs.Limits.{fits}
use Rattle.tks_tcl.specs.Lists.{concatenated, joined_by}
use Rattle.tks_tcl.specs.Plain as commands
use Rattle.tks_tcl.specs.Plain.{plain}
use Rattle.tks_tcl.specs.Variables.{stores}
use Rattle.tks_tcl.proofs.Framing.{follows, follows_on, one_of, Left, stores_stay, leaves_frames}
use Rattle.tks_eval.specs.Outcome.{Outcome, End, Stopped, OutOfSteps, Next, Level, Answer, Unknown, Comes, PassesLimit, Taken, Nothing, Takes, TooMuch, Meaning, after_step, after, after_taken, after_body, after_next, caught, appended, fails, given}
use Rattle.tks_eval.specs.Evaluation.{Loop, element_name, with_value, words_in, foreach_form, without_frame, returned, at_global, global_does, after_script, scripts_do, plan_with, noted, thing_with, things_do, update_does, plan_does, thing_does, parts_do, wrong_words, text_done, and_then, made_text, value_does, expression_does, if_holds, tested, done, expr_does, script_does, branches_do, form_does, turn_does, turns, loop_does, while_does, for_does, catch_ends, catch_does, eval_does, each, foreach_does, settled, procedure_does, proc_does, control_does, host_does, plain_does, command_does, call, words_do, commands_do, evaluate}
use Rattle.tks_eval.specs.Names.{Control, control_named}
use Rattle.tks_eval.specs.Names as control
use Rattle.tks_eval.specs.Procedures.{given_arguments, arguments, with_arguments, entered, parameters_in, defined, is_taken, proc_form}
use Rattle.tks_eval.specs.declared.host.Due.{Due}
use Rattle.tks_eval.specs.declared.host.Plan.{Plan}
use Rattle.tks_eval.specs.declared.host.Plan.TheVariants as plan
use Rattle.tks_eval.specs.Branches.{Test, Branches, Condition, branches}
use Rattle.tks_expr.specs.Tree as expr
use Rattle.tks_expr.specs.Tree.{Expr}
use Rattle.tks_expr.specs.Value.{told, by_condition, truth_text}
use Rattle.tks_expr.specs.Operation.{truth_of, result_of, applied, applied_unary}
use Rattle.tks_expr.specs.Reading.{expr_of}
use Rattle.tks_eval.specs.Laws.{HostLeavesFrames, LeavesFrames}

module _ {S : Type 0} where
  -- ---- what follows on an end

  -- an end with these variables leaves the frames below
  abbrev EndLeaves : Variables → Outcome S → Type 0
  EndLeaves v (Stopped why) = Unit {0}
  EndLeaves v (End code text state variables fuel) = FramesStay v variables

  -- the same as a record, which shows its outcome
  pub record Leaves (v : Variables) (outcome : Outcome S) : Type 0 where
    pub leaves : EndLeaves v outcome

  abbrev NextLeaves : Next S → Type 0
  NextLeaves next = (state : S) (variables : Variables) (fuel : ℕ) → Leaves variables (next state variables fuel)

  abbrev LevelLeaves : Level S → Type 0
  LevelLeaves inner = (script : Script) → NextLeaves (inner script)

  -- from variables that have the same frames below
  pub from_those : (u v : Variables) (o : Outcome S) → FramesStay u v → Leaves v o → Leaves u o
  from_those u v (Stopped why) h k = record { leaves = tt }
  from_those u v (End code text state variables fuel) h k = record { leaves = both h k.leaves }

  pub ends : (v : Variables) (code : ℕ) (text : List ℕ) (state : S) (w : Variables) (fuel : ℕ) → FramesStay v w → Leaves v (End code text state w fuel)
  ends v code text state w fuel h = record { leaves = h }

  end_leaves : (code : ℕ) (text : List ℕ) → NextLeaves (End code text)
  end_leaves code text state variables fuel = record { leaves = itself variables }

  pub if_leaves : (v : Variables) (b : Bool) {o other : Outcome S} → Leaves v o → Leaves v other → Leaves v (if b then o else other)
  if_leaves v true h k = h
  if_leaves v false h k = k

  step_leaves : (v : Variables) (fuel : ℕ) (next : ℕ → Outcome S) → ((fuel : ℕ) → Leaves v (next fuel)) → Leaves v (after_step fuel next)
  step_leaves v zero next n = record { leaves = tt }
  step_leaves v (suc fuel) next n = n fuel

  after_leaves : (v : Variables) {o : Outcome S} (next : List ℕ → Next S) → Leaves v o → ((text : List ℕ) → NextLeaves (next text)) → Leaves v (after o next)
  after_leaves v {o = Stopped why} next h n = record { leaves = tt }
  after_leaves v {o = End code text state w fuel} next h n =
      if_leaves v (code == 0) (from_those v w (next text state w fuel) h.leaves (n text state w fuel)) h

  body_leaves : (v : Variables) {o : Outcome S} (next : Next S) → Leaves v o → NextLeaves next → Leaves v (after_body o next)
  body_leaves v {o = Stopped why} next h n = record { leaves = tt }
  body_leaves v {o = End code text state w fuel} next h n =
      if_leaves v (code == 0) (from_those v w (next state w fuel) h.leaves (n state w fuel))
      (if_leaves v (code == 4) (from_those v w (next state w fuel) h.leaves (n state w fuel)) (if_leaves v (code == 3) (ends v 0 [] state w fuel h.leaves) h))

  next_leaves : (v : Variables) {o : Outcome S} (next : Next S) → Leaves v o → NextLeaves next → Leaves v (after_next o next)
  next_leaves v {o = Stopped why} next h n = record { leaves = tt }
  next_leaves v {o = End code text state w fuel} next h n =
      if_leaves v (code == 0) (from_those v w (next state w fuel) h.leaves (n state w fuel)) (if_leaves v (code == 3) (ends v 0 [] state w fuel h.leaves) h)

  caught_leaves : (v : Variables) {o : Outcome S} (next : ℕ → List ℕ → Next S) → Leaves v o → ((code : ℕ) (text : List ℕ) → NextLeaves (next code text)) → Leaves v (caught o next)
  caught_leaves v {o = Stopped why} next h n = record { leaves = tt }
  caught_leaves v {o = End code text state w fuel} next h n = from_those v w (next code text state w fuel) h.leaves (n code text state w fuel)

  -- a frame that was begun ends
  frame_leaves : (frame : Option Frame) (v : Variables) {o : Outcome S} → Leaves (record v { locals = frame ∷ v.locals }) o → Leaves v (without_frame o)
  frame_leaves frame v {o = Stopped why} h = record { leaves = tt }
  frame_leaves frame v {o = End code text state w fuel} h = record { leaves = popped_stays frame v w h.leaves }

  returned_leaves : (v : Variables) {o : Outcome S} → Leaves v o → Leaves v (returned o)
  returned_leaves v {o = Stopped why} h = record { leaves = tt }
  returned_leaves v {o = End code text state w fuel} h = if_leaves v (code == 2) (ends v 0 text state w fuel h.leaves) h

  module _ (inner : Level S) (deep : LevelLeaves inner) where
    at_global_leaves : (text : List ℕ) → NextLeaves (at_global inner text)
    at_global_leaves text state variables fuel = frame_leaves None variables (deep (script_of text) state (pushed_global variables) fuel)

    global_leaves : (text : List ℕ) → NextLeaves (global_does inner text)
    global_leaves text state variables fuel = returned_leaves variables (at_global_leaves text state variables fuel)

  -- ---- plans

  module _ (host : Meaning S) where
    script_ended_leaves : (v : Variables) {o : Outcome S} (next : Next S) → Leaves v o → NextLeaves next → Leaves v (after_script host o next)
    script_ended_leaves v {o = Stopped why} next h n = record { leaves = tt }
    script_ended_leaves v {o = End code text state w fuel} next h n =
        if_leaves v (code == 1) (ends v 0 [] (host.faulted state text) w fuel h.leaves)
        (if_leaves v (code == 3) (ends v 0 [] state w fuel h.leaves) (from_those v w (next state w fuel) h.leaves (n state w fuel)))

    module _ (inner : Level S) (deep : LevelLeaves inner) where
      scripts_leave : (window : ℕ) (scripts : List (List ℕ)) → NextLeaves (scripts_do host inner window scripts)
      scripts_leave window [] state variables fuel = end_leaves 0 [] state variables fuel
      scripts_leave window (script ∷ scripts) state variables fuel =
          if_leaves variables (host.alive state window)
          (step_leaves variables fuel _ (λ fuel. script_ended_leaves variables _ (at_global_leaves inner deep script state variables fuel) (scripts_leave window scripts)))
          (end_leaves 0 [] state variables fuel)

      plan_with_leaves : (update : Due → Next S) → ((due : Due) → NextLeaves (update due)) → (p : Plan) → NextLeaves (plan_with host update inner p)
      plan_with_leaves update h (plan.Answer code text) = end_leaves code text
      plan_with_leaves update h (plan.Eval script) = global_leaves inner deep script
      plan_with_leaves update h (plan.Dispatch window scripts) = scripts_leave window scripts
      plan_with_leaves update h (plan.Update due) = h due

    -- ---- things that wait

    noted_leaves : (v : Variables) {o : Outcome S} → Leaves v o → Leaves v (noted host o)
    noted_leaves v {o = Stopped why} h = record { leaves = tt }
    noted_leaves v {o = End code text state w fuel} h =
        if_leaves v (code == 0) (ends v 0 [] state w fuel h.leaves) (ends v 0 [] (host.faulted state text) w fuel h.leaves)

  pub taken_leaves : (taken : Taken S) (state : S) (variables : Variables) (fuel : ℕ) (next : Plan → Next S) → ((p : Plan) → NextLeaves (next p)) → Leaves variables (after_taken taken state variables fuel next)
  taken_leaves Nothing state variables fuel next n = end_leaves 0 [] state variables fuel
  taken_leaves (Takes p state') state variables fuel next n = n p state' variables fuel
  taken_leaves TooMuch state variables fuel next n = record { leaves = tt }

  module _ (limits : Limits) where
    pub fails_leave : (fault : ScriptFault) → NextLeaves (fails limits fault)
    fails_leave fault state variables fuel = if_leaves variables (fits limits (fault_text fault)) (end_leaves 1 (fault_text fault) state variables fuel) (record { leaves = tt })

    pub given_leaves : {X : Type 0} (state : S) (v : Variables) (fuel : ℕ) (r : Result X tcl.Cause) {next : X → Outcome S} → ((x : X) → Leaves v (next x)) → Leaves v (given limits r state v fuel next)
    given_leaves state v fuel (Ok x) n = n x
    given_leaves state v fuel (Err (Fault fault)) n = fails_leave fault state v fuel
    given_leaves state v fuel (Err OverLimit) n = record { leaves = tt }

    -- the same, where what is given has P
    given_so : {X : Type 0} (P : X → Type 0) (state : S) (v : Variables) (fuel : ℕ) (r : Result X tcl.Cause) (next : X → Outcome S) → IfOk r P → ((x : X) → P x → Leaves v (next x)) → Leaves v (given limits r state v fuel next)
    given_so P state v fuel (Ok x) next h n = n x h
    given_so P state v fuel (Err (Fault fault)) next h n = fails_leave fault state v fuel
    given_so P state v fuel (Err OverLimit) next h n = record { leaves = tt }

    pub settled_leaves : (v : Variables) {o : Outcome S} → Leaves v o → Leaves v (settled limits o)
    settled_leaves v {o = Stopped why} h = record { leaves = tt }
    settled_leaves v {o = End code text state w fuel} h =
        if_leaves v (code == 2) (ends v 0 text state w fuel h.leaves)
        (if_leaves v (code == 3 || code == 4) (from_those v w (fails limits (bare OutsideLoop) state w fuel) h.leaves (fails_leave (bare OutsideLoop) state w fuel)) h)

    module _ (host : Meaning S) (inner : Level S) (deep : LevelLeaves inner) where
      -- ---- what waits

      thing_with_leaves : (update : Due → Next S) → ((due : Due) → NextLeaves (update due)) → (p : Plan) → NextLeaves (thing_with host limits update inner p)
      thing_with_leaves update h p state variables fuel = noted_leaves host variables (settled_leaves variables (plan_with_leaves host inner deep update h p state variables fuel))

      things_leave : (most : ℕ) (due : Due) → NextLeaves (things_do host limits most inner due)
      things_leave zero due state variables fuel =
          taken_leaves (host.next due state) state variables fuel (λ p state variables fuel. Stopped OutOfSteps) (λ p state variables fuel. record { leaves = tt })
      things_leave (suc most) due state variables fuel =
          taken_leaves (host.next due state) state variables fuel
          (λ p state variables fuel. after_step fuel (λ fuel. caught (thing_with host limits (things_do host limits most inner) inner p state variables fuel) (λ code text. things_do host limits most inner due)))
          (λ p state variables fuel. step_leaves variables fuel _ (λ fuel.
          caught_leaves variables _ (thing_with_leaves (things_do host limits most inner) (things_leave most) p state variables fuel) (λ code text. things_leave most due)))

      update_leaves : (due : Due) → NextLeaves (update_does host limits inner due)
      update_leaves due state variables fuel = things_leave fuel due state variables fuel

      pub plan_leaves : (p : Plan) → NextLeaves (plan_does host limits inner p)
      plan_leaves p state variables fuel = plan_with_leaves host inner deep (update_does host limits inner) update_leaves p state variables fuel

      pub thing_leaves : (p : Plan) → NextLeaves (thing_does host limits inner p)
      thing_leaves p state variables fuel = thing_with_leaves (update_does host limits inner) update_leaves p state variables fuel

    module _ (inner : Level S) (deep : LevelLeaves inner) where
      -- ---- words

      parts_leave : (parts : Parts) (made : List ℕ) → NextLeaves (parts_do limits inner parts made)
      parts_leave no_part made state variables fuel = end_leaves 0 made state variables fuel
      parts_leave (char c rest) made state variables fuel = given_leaves state variables fuel (appended limits made (c ∷ [])) (λ made. parts_leave rest made state variables fuel)
      parts_leave (variable name rest) made state variables fuel = given_leaves state variables fuel (with_value limits variables name made) (λ made. parts_leave rest made state variables fuel)
      parts_leave (element name index rest) made state variables fuel =
          after_leaves variables _ (parts_leave index [] state variables fuel) (λ at state variables fuel. given_leaves state variables fuel (with_value limits variables (element_name name at) made) (λ made. parts_leave rest made state variables fuel))
      parts_leave (nested script rest) made state variables fuel =
          after_leaves variables _ (deep script state variables fuel) (λ text state variables fuel. given_leaves state variables fuel (appended limits made text) (λ made. parts_leave rest made state variables fuel))

      -- ---- expressions

      told_leaves : (result : Result (List ℕ) ScriptFault) → NextLeaves (told text_done (fails limits) and_then (made_text limits inner) result)
      told_leaves (Ok text) state variables fuel = end_leaves 0 text state variables fuel
      told_leaves (Err fault) state variables fuel = fails_leave fault state variables fuel

      by_condition_leaves : (holds : Result Bool ScriptFault) (first second : Next S) → NextLeaves first → NextLeaves second
          → NextLeaves (by_condition text_done (fails limits) and_then (made_text limits inner) holds first second)
      by_condition_leaves (Ok true) first second h k = h
      by_condition_leaves (Ok false) first second h k = k
      by_condition_leaves (Err fault) first second h k = fails_leave fault

      -- an operand, of which the truth is told
      truth_leaves : (operand : Next S) → NextLeaves operand → NextLeaves (and_then operand (truth_text text_done (fails limits) and_then (made_text limits inner)))
      truth_leaves operand h state variables fuel =
          after_leaves variables _ (h state variables fuel) (λ x. by_condition_leaves (truth_of x) _ _ (end_leaves 0 (codes "1")) (end_leaves 0 (codes "0")))

      value_leaves : (e : Expr) → NextLeaves (value_does limits inner e)
      value_leaves (expr.Literal text) state variables fuel = end_leaves 0 text state variables fuel
      value_leaves (expr.Made parts) state variables fuel = parts_leave parts [] state variables fuel
      value_leaves (expr.One op a) state variables fuel = after_leaves variables _ (value_leaves a state variables fuel) (λ x. told_leaves (applied_unary op x))
      value_leaves (expr.Two op a b) state variables fuel =
          after_leaves variables _ (value_leaves a state variables fuel) (λ x state variables fuel. after_leaves variables _ (value_leaves b state variables fuel) (λ y. told_leaves (applied op x y)))
      value_leaves (expr.Both a b) state variables fuel =
          after_leaves variables _ (value_leaves a state variables fuel) (λ x. by_condition_leaves (truth_of x) _ _ (truth_leaves (value_does limits inner b) (value_leaves b)) (end_leaves 0 (codes "0")))
      value_leaves (expr.Either a b) state variables fuel =
          after_leaves variables _ (value_leaves a state variables fuel) (λ x. by_condition_leaves (truth_of x) _ _ (end_leaves 0 (codes "1")) (truth_leaves (value_does limits inner b) (value_leaves b)))
      value_leaves (expr.Conditional c a b) state variables fuel =
          after_leaves variables _ (value_leaves c state variables fuel) (λ x. by_condition_leaves (truth_of x) _ _ (value_leaves a) (value_leaves b))

      expression_leaves : (text : List ℕ) → NextLeaves (expression_does limits inner text)
      expression_leaves text state variables fuel = given_leaves state variables fuel (value_or_fault (expr_of text)) (λ e. value_leaves e state variables fuel)

      if_holds_leaves : (holds : Bool) (first second : Next S) → NextLeaves first → NextLeaves second → NextLeaves (if_holds holds first second)
      if_holds_leaves holds first second h k state variables fuel = if_leaves variables holds (h state variables fuel) (k state variables fuel)

      tested_leaves : (condition : List ℕ) (first second : Next S) → NextLeaves first → NextLeaves second → NextLeaves (tested limits inner condition first second)
      tested_leaves condition first second h k state variables fuel =
          step_leaves variables fuel _ (λ fuel. after_leaves variables _ (expression_leaves condition state variables fuel) (λ text state variables fuel.
          given_leaves state variables fuel (value_or_fault (truth_of text)) (λ holds. if_holds_leaves holds first second h k state variables fuel)))

      -- ---- commands that run scripts

      wrong_words_leave : (first : List ℕ) → NextLeaves (wrong_words limits first)
      wrong_words_leave first = fails_leave (fault_about WrongWords first)

      expr_leaves : (first : List ℕ) (words : List (List ℕ)) → NextLeaves (expr_does limits inner first words)
      expr_leaves first [] state variables fuel = wrong_words_leave first state variables fuel
      expr_leaves first (one ∷ words) state variables fuel =
          given_leaves state variables fuel (within limits (joined_by (codes " ") (one ∷ words))) (λ text. after_leaves variables _ (expression_leaves text state variables fuel) (λ text state variables fuel.
          given_leaves state variables fuel (value_or_fault (result_of text)) (λ result. end_leaves 0 result state variables fuel)))

      done_leaves : NextLeaves done
      done_leaves = end_leaves 0 []

      script_leaves : (script : Option (List ℕ)) → NextLeaves (script_does inner script)
      script_leaves None = done_leaves
      script_leaves (Some text) = deep (script_of text)

      branches_leave : (otherwise : Option (List ℕ)) (tests : List Test) → NextLeaves (branches_do limits inner otherwise tests)
      branches_leave otherwise [] state variables fuel = script_leaves otherwise state variables fuel
      branches_leave otherwise (t ∷ tests) state variables fuel = tested_leaves t.condition _ _ (deep (script_of t.body)) (branches_leave otherwise tests) state variables fuel

      form_leaves : (first : List ℕ) (form : Option Branches) → NextLeaves (form_does limits inner first form)
      form_leaves first None = wrong_words_leave first
      form_leaves first (Some b) = branches_leave b.otherwise b.tests

      turn_leaves : (loop : Loop) (again : Next S) → NextLeaves again → NextLeaves (turn_does inner loop again)
      turn_leaves loop again h state variables fuel =
          body_leaves variables _ (deep (script_of loop.body) state variables fuel) (λ state variables fuel. next_leaves variables _ (script_leaves loop.next state variables fuel) h)

      turns_leave : (most : ℕ) (loop : Loop) → NextLeaves (turns limits most inner loop)
      turns_leave zero loop state variables fuel = record { leaves = tt }
      turns_leave (suc most) loop state variables fuel = tested_leaves loop.condition _ _ (turn_leaves loop _ (turns_leave most loop)) done_leaves state variables fuel

      loop_leaves : (loop : Loop) → NextLeaves (loop_does limits inner loop)
      loop_leaves loop state variables fuel = turns_leave fuel loop state variables fuel

      while_leaves : (first : List ℕ) (words : List (List ℕ)) → NextLeaves (while_does limits inner first words)
      while_leaves first [] = wrong_words_leave first
      while_leaves first (condition ∷ []) = wrong_words_leave first
      while_leaves first (condition ∷ (body ∷ [])) = loop_leaves (record { condition = condition; next = None; body = body })
      while_leaves first (condition ∷ (body ∷ (third ∷ words))) = wrong_words_leave first

      for_leaves : (first : List ℕ) (words : List (List ℕ)) → NextLeaves (for_does limits inner first words)
      for_leaves first [] state variables fuel = wrong_words_leave first state variables fuel
      for_leaves first (start ∷ []) state variables fuel = wrong_words_leave first state variables fuel
      for_leaves first (start ∷ (condition ∷ [])) state variables fuel = wrong_words_leave first state variables fuel
      for_leaves first (start ∷ (condition ∷ (next ∷ []))) state variables fuel = wrong_words_leave first state variables fuel
      for_leaves first (start ∷ (condition ∷ (next ∷ (body ∷ [])))) state variables fuel =
          after_leaves variables _ (deep (script_of start) state variables fuel) (λ text. loop_leaves (record { condition = condition; next = Some next; body = body }))
      for_leaves first (start ∷ (condition ∷ (next ∷ (body ∷ (fifth ∷ words))))) state variables fuel = wrong_words_leave first state variables fuel

      catch_ends_leave : (name : Option (List ℕ)) (code : ℕ) (text : List ℕ) → NextLeaves (catch_ends limits name code text)
      catch_ends_leave None code text state variables fuel = end_leaves 0 (decimal code) state variables fuel
      catch_ends_leave (Some name) code text state variables fuel =
          given_so (Left variables) state variables fuel (stores limits name variables text) _ (stores_stay limits name variables text) (λ stored k. ends variables 0 (decimal code) state stored.1 fuel k)

      catch_leaves : (first : List ℕ) (words : List (List ℕ)) → NextLeaves (catch_does limits inner first words)
      catch_leaves first [] state variables fuel = wrong_words_leave first state variables fuel
      catch_leaves first (script ∷ []) state variables fuel = caught_leaves variables _ (deep (script_of script) state variables fuel) (catch_ends_leave None)
      catch_leaves first (script ∷ (name ∷ [])) state variables fuel = caught_leaves variables _ (deep (script_of script) state variables fuel) (catch_ends_leave (Some name))
      catch_leaves first (script ∷ (name ∷ (third ∷ words))) state variables fuel = wrong_words_leave first state variables fuel

      eval_leaves : (words : List (List ℕ)) → NextLeaves (eval_does limits inner words)
      eval_leaves words state variables fuel = given_leaves state variables fuel (within limits (concatenated words)) (λ text. deep (script_of text) state variables fuel)

      each_leaves : (name body : List ℕ) (items : List (List ℕ)) → NextLeaves (each limits inner name body items)
      each_leaves name body [] state variables fuel = end_leaves 0 [] state variables fuel
      each_leaves name body (item ∷ items) state variables fuel =
          step_leaves variables fuel _ (λ fuel. given_so (Left variables) state variables fuel (stores limits name variables item) _ (stores_stay limits name variables item) (λ stored k.
          from_those variables stored.1 _ k (body_leaves stored.1 _ (deep (script_of body) state stored.1 fuel) (each_leaves name body items))))

      foreach_leaves : (first : List ℕ) (words : List (List ℕ)) → NextLeaves (foreach_does limits inner first words)
      foreach_leaves first words state variables fuel = given_leaves state variables fuel (foreach_form first words) (λ x. each_leaves x.0 x.1 x.2 state variables fuel)

      -- ---- procedures

      -- variables with one frame more
      abbrev Begun : Variables → Variables → Type 0
      Begun v u = (frame : Frame) × (u ≡ record v { locals = Some frame ∷ v.locals })

      begun_by : (given : List Argument) (v : Variables) → IfOk (with_arguments limits given v) (Begun v)
      begun_by given v =
          one_of (Begun v) (list_all (λ x. fits limits x.value) given) _ _ (one_of (Begun v) (nat_le (map.len (frame_of given)) limits.items) _ _ (frame_of given, refl) tt) tt

      entered_so : (first : List ℕ) (words : List (List ℕ)) (v : Variables) (procedure : Option Procedure) → IfOk (entered limits first words v procedure) (λ x. Begun v x.1)
      entered_so first words v None = tt
      entered_so first words v (Some procedure) =
          follows (λ x. Begun v x.1) (given_arguments first (arguments [] procedure.params words)) _ (λ given.
          follows_on (Begun v) (λ x. Begun v x.1) (with_arguments limits given v) _ (begun_by given v) (λ inside k. k))

      procedure_leaves : (first : List ℕ) (words : List (List ℕ)) (procedure : Option Procedure) → NextLeaves (procedure_does limits inner first words procedure)
      procedure_leaves first words procedure state variables fuel =
          given_so (λ x. Begun variables x.1) state variables fuel (entered limits first words variables procedure) _ (entered_so first words variables procedure) (λ x k.
          settled_leaves variables (frame_leaves (Some k.0) variables (subst (λ u. Leaves u (inner (script_of x.0) state x.1 fuel)) k.1 (deep (script_of x.0) state x.1 fuel))))

      module _ (host : Meaning S) (same : HostLeavesFrames host) where
        defined_so : (name params body : List ℕ) (v : Variables) → IfOk (defined limits name params body v) (FramesStay v)
        defined_so name params body v =
            follows (FramesStay v) (parameters_in name params) _ (λ params.
            one_of (FramesStay v) (is_some (map.get v.procedures name) || nat_lt (map.len v.procedures) limits.items) _ _ (defined_stays v name (record { params = params; body = body })) tt)

        proc_form_so : (first : List ℕ) (words : List (List ℕ)) (state : S) (v : Variables) → IfOk (proc_form host limits first words state v) (FramesStay v)
        proc_form_so first [] state v = tt
        proc_form_so first (name ∷ []) state v = tt
        proc_form_so first (name ∷ (params ∷ [])) state v = tt
        proc_form_so first (name ∷ (params ∷ (body ∷ []))) state v = one_of (FramesStay v) (is_taken host state name) _ _ tt (defined_so name params body v)
        proc_form_so first (name ∷ (params ∷ (body ∷ (fourth ∷ words)))) state v = tt

        proc_leaves : (first : List ℕ) (words : List (List ℕ)) → NextLeaves (proc_does host limits first words)
        proc_leaves first words state variables fuel =
            given_so (FramesStay variables) state variables fuel (proc_form host limits first words state variables) _ (proc_form_so first words state variables) (λ new k. ends variables 0 [] state new fuel k)

        -- ---- any command

        control_leaves : (c : Control) (first : List ℕ) (words : List (List ℕ)) → NextLeaves (control_does host limits inner c first words)
        control_leaves control.Catch = catch_leaves
        control_leaves control.Eval = λ first. eval_leaves
        control_leaves control.Expr = expr_leaves
        control_leaves control.For = for_leaves
        control_leaves control.Foreach = foreach_leaves
        control_leaves control.If = λ first words. form_leaves first (branches Condition [] words)
        control_leaves control.Proc = proc_leaves
        control_leaves control.While = while_leaves

        answer_leaves : (first : List ℕ) (words : List (List ℕ)) (state : S) (variables : Variables) (fuel : ℕ) (answer : Answer S)
            → ((p : Plan) (state' : S) (variables' : Variables) → answer ≡ Comes p state' variables' → FramesStay variables variables')
            → Leaves variables (host_does host limits inner first words answer state variables fuel)
        answer_leaves first words state variables fuel (Comes p state' variables') h =
            from_those variables variables' _ (h p state' variables' refl) (plan_leaves host inner deep p state' variables' fuel)
        answer_leaves first words state variables fuel PassesLimit h = record { leaves = tt }
        answer_leaves first words state variables fuel Unknown h = procedure_leaves first words (map.get variables.procedures first) state variables fuel

        plain_leaves : (first : List ℕ) (words : List (List ℕ)) (state : S) (variables : Variables) (fuel : ℕ) (answer : Option commands.Answer)
            → ((code : ℕ) (text : List ℕ) (new : Variables) → answer ≡ Some (commands.Answers code text new) → FramesStay variables new)
            → Leaves variables (plain_does host limits inner first words answer state variables fuel)
        plain_leaves first words state variables fuel (Some (commands.Answers code text new)) h = ends variables code text state new fuel (h code text new refl)
        plain_leaves first words state variables fuel (Some commands.PassesLimit) h = record { leaves = tt }
        plain_leaves first words state variables fuel None h =
            answer_leaves first words state variables fuel (host.commands state variables (first ∷ words)) (same.commands state variables (first ∷ words))

        command_leaves : (control : Option Control) (first : List ℕ) (words : List (List ℕ)) → NextLeaves (command_does host limits inner control first words)
        command_leaves (Some c) first words state variables fuel = control_leaves c first words state variables fuel
        command_leaves None first words state variables fuel =
            plain_leaves first words state variables fuel (plain limits (first ∷ words) variables) (λ code text new. leaves_frames limits (first ∷ words) variables new code text)

        call_leaves : (words : List (List ℕ)) → NextLeaves (call host limits inner words)
        call_leaves [] state variables fuel = end_leaves 0 [] state variables fuel
        call_leaves (first ∷ words) state variables fuel = step_leaves variables fuel _ (command_leaves (control_named first) first words state variables)

        words_leave : (words : Words) (made : List (List ℕ)) → NextLeaves (words_do host limits inner words made)
        words_leave no_word made state variables fuel = call_leaves made state variables fuel
        words_leave (word expand parts rest) made state variables fuel =
            after_leaves variables _ (parts_leave parts [] state variables fuel) (λ text state variables fuel. given_leaves state variables fuel (words_in expand text) (λ added. words_leave rest (made ++ added) state variables fuel))

        commands_leave : (script : Script) (last : List ℕ) → NextLeaves (commands_do host limits inner script last)
        commands_leave no_command last state variables fuel = end_leaves 0 last state variables fuel
        commands_leave (faulty fault) last state variables fuel = fails_leave fault state variables fuel
        commands_leave (command words rest) last state variables fuel = after_leaves variables _ (words_leave words [] state variables fuel) (commands_leave rest)

    -- a script
    pub script_run_leaves : (host : Meaning S) → HostLeavesFrames host → (depth : ℕ) → LevelLeaves (evaluate host limits depth)
    script_run_leaves host same zero script state variables fuel = record { leaves = tt }
    script_run_leaves host same (suc depth) script state variables fuel =
        commands_leave (evaluate host limits depth) (script_run_leaves host same depth) host same script [] state variables fuel

pub run_leaves : {S : Type 0} (host : Meaning S) → HostLeavesFrames host → LeavesFrames host
run_leaves host same limits depth script state variables fuel code text state' variables' left e =
    (subst (λ o. Leaves variables o) e (script_run_leaves limits host same depth script state variables fuel)).leaves
