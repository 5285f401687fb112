-- What a run of a script leaves passes no limit, where the commands of its host pass none.
use Rattle.std.proofs.Common.{◌≡◌, ℕ, zero, suc, ◌==◌, ◌||◌, Bool, true, false, true≢false, if◌then◌else◌, List, [], ◌∷◌, ◌++◌, length, codes, Option, Some, None, IfSome, Result, Ok, Err, IfOk, refl, sym, subst, arith}
use Rattle.std.specs.Fmt.{decimal}
use Rattle.std.specs.FinMap as map
use Rattle.std.proofs.lemmas.Bool.{eqb-true, and_from, cond_both}
use Rattle.std.proofs.lemmas.List.{length-append}
use Rattle.tks_text.specs.Fault.{fault_about, fault_text}
use Rattle.tks_text.specs.Limits.{fits}
use Rattle.tks_text.specs.declared.fault.ErrorNumber.TheVariants.{WrongWords, OutsideLoop}
use Rattle.tks_text.specs.declared.fault.ScriptFault.{ScriptFault}
use Rattle.tks_text.specs.declared.limits.Limits.{Limits}
use Rattle.tks_parse.specs.Tree.{Script, no_command, faulty, command, Words, no_word, word, Parts, no_part, char, variable, element, nested}
use Rattle.tks_parse.specs.Reading.{script_of}
use Rattle.tks_vars.specs.Variables.{Variables, value_of, pushed_global}
use Rattle.tks_vars.specs.declared.procedure.Procedure.{Procedure}
use Rattle.tks_tcl.specs.Cause as tcl
use Rattle.tks_tcl.specs.Cause.{Fault, OverLimit, value_or_fault, bare, within}
use Rattle.tks_tcl.specs.Lists.{concatenated, joined_by}
use Rattle.tks_tcl.specs.Words.{list_in}
use Rattle.tks_tcl.specs.Plain as commands
use Rattle.tks_tcl.specs.Plain.{plain}
use Rattle.tks_tcl.specs.Variables.{stores}
use Rattle.tks_tcl.proofs.Framing.{follows}
use Rattle.tks_expr.specs.Tree as expr
use Rattle.tks_expr.specs.Tree.{Expr}
use Rattle.tks_expr.specs.Value.{told, by_condition, truth_text}
use Rattle.tks_expr.specs.Operation.{truth_of, result_of, applied, applied_unary}
use Rattle.tks_expr.specs.Reading.{expr_of}
use Rattle.tks_eval.specs.Outcome.{Outcome, End, Stopped, OutOfSteps, Next, Level, Answer, Unknown, Comes, PassesLimit, Taken, Nothing, Takes, TooMuch, Meaning, after_step, after, after_taken, after_body, after_next, caught, appended, fails, given}
use Rattle.tks_eval.specs.Evaluation.{Loop, element_name, with_value, words_in, foreach_form, without_frame, returned, at_global, global_does, after_script, scripts_do, plan_with, noted, thing_with, things_do, update_does, plan_does, thing_does, parts_do, wrong_words, text_done, and_then, made_text, value_does, expression_does, if_holds, tested, done, expr_does, script_does, branches_do, form_does, turn_does, turns, loop_does, while_does, for_does, catch_ends, catch_does, eval_does, each, foreach_does, settled, procedure_does, proc_does, control_does, host_does, plain_does, command_does, call, words_do, commands_do, evaluate}
use Rattle.tks_eval.specs.Names.{Control, control_named}
use Rattle.tks_eval.specs.Names as control
use Rattle.tks_eval.specs.Procedures.{entered, is_taken, proc_form}
use Rattle.tks_eval.specs.declared.host.Due.{Due}
use Rattle.tks_eval.specs.declared.host.Plan.{Plan}
use Rattle.tks_eval.specs.declared.host.Plan.TheVariants as plan
use Rattle.tks_eval.specs.Branches.{Test, Branches, Condition, branches}
use Rattle.tks_keeping.specs.Fitting.{PlanFits, AnswerFits, TakenFits, HostFits}
use Rattle.tks_keeping.proofs.Lists.{one_of, appended_so}
use Rattle.tks_keeping.proofs.Texts.{whatever, tested_so, TextFits, TextsFit, empty_fits, shorter_fits, first_word, other_words, list_fits}
use Rattle.tks_keeping.proofs.Variables.{VariablesFit, ChangedFits, stores_fit}
use Rattle.tks_keeping.proofs.Procedures.{defined_fits, entered_fits}
use Rattle.tks_keeping.proofs.Plain.{PlainFits, plain_fits}

module _ (limits : Limits) where
  -- ---- values

  appended_fits : (made more : List ℕ) → TextFits limits made → IfOk (appended limits made more) (TextFits limits)
  appended_fits made more h = by (length more == 0) refl
    where
      by : (none : Bool) → (length more == 0) ≡ none → IfOk {E = tcl.Cause} (if none || fits limits (made ++ more) then Ok (made ++ more) else Err OverLimit) (TextFits limits)
      by true e =
          let nothing : length more ≡ 0 = eqb-true (length more) 0 e in
          shorter_fits limits (made ++ more) made (omega (arith, nothing, length-append made more)) h
      by false e = tested_so (TextFits limits) (fits limits (made ++ more)) (Ok (made ++ more)) (λ holds. holds)

  with_value_fits : (v : Variables) (name made : List ℕ) → TextFits limits made → IfOk (with_value limits v name made) (TextFits limits)
  with_value_fits v name made h = follows (TextFits limits) (value_or_fault (value_of v name)) (appended limits made) (λ value. appended_fits made value h)

  words_in_fit : (expand : Bool) (text : List ℕ) → TextFits limits text → IfOk (words_in expand text) (TextsFit limits)
  words_in_fit true text h = list_fits limits text h
  words_in_fit false text h = and_from (fits limits text) true h refl

-- a text fits, where its code isn't 0
abbrev pub FailsFit : Limits → ℕ → List ℕ → Type 0
FailsFit limits code text = code == 0 ≡ false → TextFits limits text

module _ {S : Type 0} (limits : Limits) (P : S → Type 0) where
  -- ---- what an end leaves

  -- its code and text have Q, its state has P, and its variables fit
  abbrev pub EndHas : (ℕ → List ℕ → Type 0) → Outcome S → Type 0
  EndHas Q (Stopped why) = Unit {0}
  EndHas Q (End code text state v fuel) = Q code text × P state × VariablesFit limits v

  -- the same as a record, which shows its outcome
  record Has (Q : ℕ → List ℕ → Type 0) (outcome : Outcome S) : Type 0 where
    pub has : EndHas Q outcome

  -- the same of what goes on, from a state with P and variables that fit
  abbrev NextHas : (ℕ → List ℕ → Type 0) → Next S → Type 0
  NextHas Q next = (state : S) → P state → (v : Variables) → VariablesFit limits v → (fuel : ℕ) → Has Q (next state v fuel)

  module _ (Q : ℕ → List ℕ → Type 0) where
    end_has : (code : ℕ) (text : List ℕ) → Q code text → NextHas Q (End code text)
    end_has code text q state p v h fuel = record { has = (q, p, h) }

    after_has : (R : ℕ → List ℕ → Type 0) → ((code : ℕ) (text : List ℕ) → code == 0 ≡ false → Q code text → R code text) → {o : Outcome S} (next : List ℕ → Next S)
        → Has Q o → ((text : List ℕ) → Q 0 text → NextHas R (next text)) → Has R (after o next)
    after_has R passed {o = Stopped why} next h n = record { has = tt }
    after_has R passed {o = End code text state v fuel} next h n = by (code == 0) refl
      where
        by : (b : Bool) → code == 0 ≡ b → Has R (if b then next text state v fuel else End code text state v fuel)
        by true e = n text (subst (λ c. Q c text) (eqb-true code 0 e) h.has.0) state h.has.1 v h.has.2 fuel
        by false e = record { has = (passed code text e h.has.0, h.has.1, h.has.2) }

    -- where Q holds of errors that fit
    module _ (errs : (text : List ℕ) → TextFits limits text → Q 1 text) where
      fails_has : (fault : ScriptFault) → NextHas Q (fails limits fault)
      fails_has fault state p v h fuel =
          cond_both (fits limits (fault_text fault)) (End 1 (fault_text fault) state v fuel) _ (Has Q)
          (λ e. end_has 1 (fault_text fault) (errs (fault_text fault) e) state p v h fuel) (λ e. record { has = tt })

      given_has : {X : Type 0} (I : X → Type 0) (state : S) → P state → (v : Variables) → VariablesFit limits v → (fuel : ℕ) (r : Result X tcl.Cause) (next : X → Outcome S)
          → IfOk r I → ((x : X) → I x → Has Q (next x)) → Has Q (given limits r state v fuel next)
      given_has I state p v h fuel (Ok x) next i n = n x i
      given_has I state p v h fuel (Err (Fault fault)) next i n = fails_has fault state p v h fuel
      given_has I state p v h fuel (Err OverLimit) next i n = record { has = tt }

  -- ---- what scripts leave

  -- an end leaves what fits, and its text does where its code isn't 0
  abbrev pub EndFits : Outcome S → Type 0
  EndFits outcome = EndHas (FailsFit limits) outcome

  -- the same of a shown outcome, of what goes on, and of scripts
  abbrev Leaves : Outcome S → Type 0
  Leaves outcome = Has (FailsFit limits) outcome

  abbrev NextLeaves : Next S → Type 0
  NextLeaves next = NextHas (FailsFit limits) next

  abbrev LevelLeaves : Level S → Type 0
  LevelLeaves inner = (script : Script) → NextLeaves (inner script)

  -- ---- ends

  end_leaves : (code : ℕ) (text : List ℕ) → FailsFit limits code text → NextLeaves (End code text)
  end_leaves = end_has (FailsFit limits)

  -- an end with code 0, whatever its text
  well : (text : List ℕ) → NextLeaves (End 0 text)
  well text = end_leaves 0 text (λ e. absurd (true≢false e))

  done_leaves : NextLeaves done
  done_leaves = well []

  fails_leave : (fault : ScriptFault) → NextLeaves (fails limits fault)
  fails_leave = fails_has (FailsFit limits) (λ text f e. f)

  -- a value that has I, or an error
  given_leaves : {X : Type 0} (I : X → Type 0) (state : S) → P state → (v : Variables) → VariablesFit limits v → (fuel : ℕ) (r : Result X tcl.Cause) (next : X → Outcome S)
      → IfOk r I → ((x : X) → I x → Leaves (next x)) → Leaves (given limits r state v fuel next)
  given_leaves = given_has (FailsFit limits) (λ text f e. f)

  -- any value, or an error
  given_any : {X : Type 0} (state : S) → P state → (v : Variables) → VariablesFit limits v → (fuel : ℕ) (r : Result X tcl.Cause) (next : X → Outcome S)
      → ((x : X) → Leaves (next x)) → Leaves (given limits r state v fuel next)
  given_any state p v h fuel r next n = given_leaves (λ _. Unit {0}) state p v h fuel r next (whatever (λ _. Unit {0}) r (λ _. tt)) (λ x _. n x)

  -- ---- ways to go on

  if_leaves : (b : Bool) {o other : Outcome S} → (b ≡ true → Leaves o) → (b ≡ false → Leaves other) → Leaves (if b then o else other)
  if_leaves true h k = h refl
  if_leaves false h k = k refl

  step_leaves : (fuel : ℕ) (next : ℕ → Outcome S) → ((fuel : ℕ) → Leaves (next fuel)) → Leaves (after_step fuel next)
  step_leaves zero next n = record { has = tt }
  step_leaves (suc fuel) next n = n fuel

  frame_leaves : {o : Outcome S} → Leaves o → Leaves (without_frame o)
  frame_leaves {o = Stopped why} h = record { has = tt }
  frame_leaves {o = End code text state v fuel} h = record { has = h.has }

  after_leaves : {o : Outcome S} (next : List ℕ → Next S) → Leaves o → ((text : List ℕ) → NextLeaves (next text)) → Leaves (after o next)
  after_leaves next h n = after_has (FailsFit limits) (FailsFit limits) (λ code text e q. q) next h (λ text q. n text)

  body_leaves : {o : Outcome S} (next : Next S) → Leaves o → NextLeaves next → Leaves (after_body o next)
  body_leaves {o = Stopped why} next h n = record { has = tt }
  body_leaves {o = End code text state v fuel} next h n =
      if_leaves (code == 0) (λ e. n state h.has.1 v h.has.2 fuel) (λ e. if_leaves (code == 4) (λ e. n state h.has.1 v h.has.2 fuel)
      (λ e. if_leaves (code == 3) (λ e. done_leaves state h.has.1 v h.has.2 fuel) (λ e. h)))

  next_leaves : {o : Outcome S} (next : Next S) → Leaves o → NextLeaves next → Leaves (after_next o next)
  next_leaves {o = Stopped why} next h n = record { has = tt }
  next_leaves {o = End code text state v fuel} next h n =
      if_leaves (code == 0) (λ e. n state h.has.1 v h.has.2 fuel) (λ e. if_leaves (code == 3) (λ e. done_leaves state h.has.1 v h.has.2 fuel) (λ e. h))

  caught_leaves : {o : Outcome S} (next : ℕ → List ℕ → Next S) → Leaves o → ((code : ℕ) (text : List ℕ) → NextLeaves (next code text)) → Leaves (caught o next)
  caught_leaves {o = Stopped why} next h n = record { has = tt }
  caught_leaves {o = End code text state v fuel} next h n = n code text state h.has.1 v h.has.2 fuel

  -- an end by `return` is a good one
  returned_leaves : {o : Outcome S} → Leaves o → Leaves (returned o)
  returned_leaves {o = Stopped why} h = record { has = tt }
  returned_leaves {o = End code text state v fuel} h = if_leaves (code == 2) (λ e. well text state h.has.1 v h.has.2 fuel) (λ e. h)

  -- so is one of a procedure, in which `break` and `continue` are errors
  settled_leaves : {o : Outcome S} → Leaves o → Leaves (settled limits o)
  settled_leaves {o = Stopped why} h = record { has = tt }
  settled_leaves {o = End code text state v fuel} h =
      if_leaves (code == 2) (λ e. well text state h.has.1 v h.has.2 fuel)
      (λ e. if_leaves (code == 3 || code == 4) (λ e. fails_leave (bare OutsideLoop) state h.has.1 v h.has.2 fuel) (λ e. h))

  -- what follows on what was taken out
  taken_leaves : (taken : Taken S) → TakenFits limits P taken → (state : S) → P state → (v : Variables) → VariablesFit limits v → (fuel : ℕ) (next : Plan → Next S)
      → ((p : Plan) → PlanFits limits p → NextLeaves (next p)) → Leaves (after_taken taken state v fuel next)
  taken_leaves Nothing t state p v h fuel next n = done_leaves state p v h fuel
  taken_leaves (Takes x state') t state p v h fuel next n = n x t.0 state' t.1 v h fuel
  taken_leaves TooMuch t state p v h fuel next n = record { has = tt }

  module _ (inner : Level S) (deep : LevelLeaves inner) where
    -- ---- plans

    at_global_leaves : (text : List ℕ) → NextLeaves (at_global inner text)
    at_global_leaves text state p v h fuel = frame_leaves (deep (script_of text) state p (pushed_global v) h fuel)

    global_leaves : (text : List ℕ) → NextLeaves (global_does inner text)
    global_leaves text state p v h fuel = returned_leaves (at_global_leaves text state p v h fuel)

    module _ (host : Meaning S) (fit : HostFits limits P host) where
      script_ended_leaves : {o : Outcome S} (next : Next S) → Leaves o → NextLeaves next → Leaves (after_script host o next)
      script_ended_leaves {o = Stopped why} next h n = record { has = tt }
      script_ended_leaves {o = End code text state v fuel} next h n =
          if_leaves (code == 1)
          (λ e.
          let other : code == 0 ≡ false = subst (λ c. c == 0 ≡ false) (sym (eqb-true code 1 e)) refl in
          done_leaves (host.faulted state text) (fit.faulted state h.has.1 text (h.has.0 other)) v h.has.2 fuel)
          (λ e. if_leaves (code == 3) (λ e. done_leaves state h.has.1 v h.has.2 fuel) (λ e. n state h.has.1 v h.has.2 fuel))

      scripts_leave : (window : ℕ) (scripts : List (List ℕ)) → NextLeaves (scripts_do host inner window scripts)
      scripts_leave window [] state p v h fuel = done_leaves state p v h fuel
      scripts_leave window (script ∷ scripts) state p v h fuel =
          if_leaves (host.alive state window)
          (λ e. step_leaves fuel _ (λ fuel. script_ended_leaves _ (at_global_leaves script state p v h fuel) (scripts_leave window scripts)))
          (λ e. done_leaves state p v h fuel)

      plan_with_leaves : (update : Due → Next S) → ((due : Due) → NextLeaves (update due)) → (p : Plan) → PlanFits limits p → NextLeaves (plan_with host update inner p)
      plan_with_leaves update k (plan.Answer code text) f = end_leaves code text (λ e. f)
      plan_with_leaves update k (plan.Eval script) f = global_leaves script
      plan_with_leaves update k (plan.Dispatch window scripts) f = scripts_leave window scripts
      plan_with_leaves update k (plan.Update due) f = k due

      -- ---- things that wait

      noted_leaves : {o : Outcome S} → Leaves o → Leaves (noted host o)
      noted_leaves {o = Stopped why} h = record { has = tt }
      noted_leaves {o = End code text state v fuel} h =
          if_leaves (code == 0) (λ e. done_leaves state h.has.1 v h.has.2 fuel)
          (λ e. done_leaves (host.faulted state text) (fit.faulted state h.has.1 text (h.has.0 e)) v h.has.2 fuel)

      thing_with_leaves : (update : Due → Next S) → ((due : Due) → NextLeaves (update due)) → (p : Plan) → PlanFits limits p → NextLeaves (thing_with host limits update inner p)
      thing_with_leaves update k p f state ok v h fuel = noted_leaves (settled_leaves (plan_with_leaves update k p f state ok v h fuel))

      things_leave : (most : ℕ) (due : Due) → NextLeaves (things_do host limits most inner due)
      things_leave zero due state p v h fuel =
          taken_leaves (host.next due state) (fit.next due state p) state p v h fuel (λ p state v fuel. Stopped OutOfSteps) (λ p f state ok v h fuel. record { has = tt })
      things_leave (suc most) due state p v h fuel =
          taken_leaves (host.next due state) (fit.next due state p) state p v h fuel
          (λ p state v fuel. after_step fuel (λ fuel. caught (thing_with host limits (things_do host limits most inner) inner p state v fuel) (λ code text. things_do host limits most inner due)))
          (λ p f state ok v h fuel. step_leaves fuel _ (λ fuel.
          caught_leaves _ (thing_with_leaves (things_do host limits most inner) (things_leave most) p f state ok v h fuel) (λ code text. things_leave most due)))

      update_leaves : (due : Due) → NextLeaves (update_does host limits inner due)
      update_leaves due state p v h fuel = things_leave fuel due state p v h fuel

      -- what comes of a plan
      plan_leaves : (p : Plan) → PlanFits limits p → NextLeaves (plan_does host limits inner p)
      plan_leaves p f state ok v h fuel = plan_with_leaves (update_does host limits inner) update_leaves p f state ok v h fuel

      -- and of a thing that waited
      thing_leaves : (p : Plan) → PlanFits limits p → NextLeaves (thing_does host limits inner p)
      thing_leaves p f state ok v h fuel = thing_with_leaves (update_does host limits inner) update_leaves p f state ok v h fuel

    -- ---- words

    -- a text fits, whatever its code
    abbrev Fitting : ℕ → List ℕ → Type 0
    Fitting code text = TextFits limits text

    parts_fit : (parts : Parts) (made : List ℕ) → TextFits limits made → NextHas Fitting (parts_do limits inner parts made)
    parts_fit no_part made f state p v h fuel = end_has Fitting 0 made f state p v h fuel
    parts_fit (char c rest) made f state p v h fuel =
        given_has Fitting (λ text f. f) (TextFits limits) state p v h fuel (appended limits made (c ∷ [])) _ (appended_fits limits made (c ∷ []) f)
        (λ made f. parts_fit rest made f state p v h fuel)
    parts_fit (variable name rest) made f state p v h fuel =
        given_has Fitting (λ text f. f) (TextFits limits) state p v h fuel (with_value limits v name made) _ (with_value_fits limits v name made f)
        (λ made f. parts_fit rest made f state p v h fuel)
    parts_fit (element name index rest) made f state p v h fuel =
        after_has Fitting Fitting (λ code text e q. q) _ (parts_fit index [] (empty_fits limits) state p v h fuel) (λ at q state p v h fuel.
        given_has Fitting (λ text f. f) (TextFits limits) state p v h fuel (with_value limits v (element_name name at) made) _ (with_value_fits limits v (element_name name at) made f)
        (λ made f. parts_fit rest made f state p v h fuel))
    parts_fit (nested script rest) made f state p v h fuel =
        after_has (FailsFit limits) Fitting (λ code text e q. q e) _ (deep script state p v h fuel) (λ text q state p v h fuel.
        given_has Fitting (λ text f. f) (TextFits limits) state p v h fuel (appended limits made text) _ (appended_fits limits made text f)
        (λ made f. parts_fit rest made f state p v h fuel))

    -- then it fits where its code isn't 0
    parts_leave : {o : Outcome S} → Has Fitting o → Leaves o
    parts_leave {o = Stopped why} h = record { has = tt }
    parts_leave {o = End code text state v fuel} h = record { has = (λ e. h.has.0, h.has.1, h.has.2) }

    -- ---- expressions

    told_leaves : (result : Result (List ℕ) ScriptFault) → NextLeaves (told text_done (fails limits) and_then (made_text limits inner) result)
    told_leaves (Ok text) = well text
    told_leaves (Err fault) = fails_leave fault

    by_condition_leaves : (holds : Result Bool ScriptFault) (one two : Next S) → NextLeaves one → NextLeaves two
        → NextLeaves (by_condition text_done (fails limits) and_then (made_text limits inner) holds one two)
    by_condition_leaves (Ok true) one two h k = h
    by_condition_leaves (Ok false) one two h k = k
    by_condition_leaves (Err fault) one two h k = fails_leave fault

    -- an operand, of which the truth is told
    truth_leaves : (operand : Next S) → NextLeaves operand → NextLeaves (and_then operand (truth_text text_done (fails limits) and_then (made_text limits inner)))
    truth_leaves operand k state p v h fuel =
        after_leaves _ (k state p v h fuel) (λ x. by_condition_leaves (truth_of x) _ _ (well (codes "1")) (well (codes "0")))

    value_leaves : (e : Expr) → NextLeaves (value_does limits inner e)
    value_leaves (expr.Literal text) state p v h fuel = well text state p v h fuel
    value_leaves (expr.Made parts) state p v h fuel = parts_leave (parts_fit parts [] (empty_fits limits) state p v h fuel)
    value_leaves (expr.One op a) state p v h fuel = after_leaves _ (value_leaves a state p v h fuel) (λ x. told_leaves (applied_unary op x))
    value_leaves (expr.Two op a b) state p v h fuel =
        after_leaves _ (value_leaves a state p v h fuel) (λ x state p v h fuel. after_leaves _ (value_leaves b state p v h fuel) (λ y. told_leaves (applied op x y)))
    value_leaves (expr.Both a b) state p v h fuel =
        after_leaves _ (value_leaves a state p v h fuel) (λ x. by_condition_leaves (truth_of x) _ _ (truth_leaves (value_does limits inner b) (value_leaves b)) (well (codes "0")))
    value_leaves (expr.Either a b) state p v h fuel =
        after_leaves _ (value_leaves a state p v h fuel) (λ x. by_condition_leaves (truth_of x) _ _ (well (codes "1")) (truth_leaves (value_does limits inner b) (value_leaves b)))
    value_leaves (expr.Conditional c a b) state p v h fuel =
        after_leaves _ (value_leaves c state p v h fuel) (λ x. by_condition_leaves (truth_of x) _ _ (value_leaves a) (value_leaves b))

    expression_leaves : (text : List ℕ) → NextLeaves (expression_does limits inner text)
    expression_leaves text state p v h fuel = given_any state p v h fuel (value_or_fault (expr_of text)) _ (λ e. value_leaves e state p v h fuel)

    if_holds_leaves : (holds : Bool) (one two : Next S) → NextLeaves one → NextLeaves two → NextLeaves (if_holds holds one two)
    if_holds_leaves holds one two k l state p v h fuel = if_leaves holds (λ e. k state p v h fuel) (λ e. l state p v h fuel)

    tested_leaves : (condition : List ℕ) (one two : Next S) → NextLeaves one → NextLeaves two → NextLeaves (tested limits inner condition one two)
    tested_leaves condition one two k l state p v h fuel =
        step_leaves fuel _ (λ fuel. after_leaves _ (expression_leaves condition state p v h fuel) (λ text state p v h fuel.
        given_any state p v h fuel (value_or_fault (truth_of text)) _ (λ holds. if_holds_leaves holds one two k l state p v h fuel)))

    -- ---- commands that run scripts

    wrong_words_leave : (name : List ℕ) → NextLeaves (wrong_words limits name)
    wrong_words_leave name = fails_leave (fault_about WrongWords name)

    expr_leaves : (name : List ℕ) (words : List (List ℕ)) → NextLeaves (expr_does limits inner name words)
    expr_leaves name [] state p v h fuel = wrong_words_leave name state p v h fuel
    expr_leaves name (one ∷ words) state p v h fuel =
        given_any state p v h fuel (within limits (joined_by (codes " ") (one ∷ words))) _ (λ text.
        after_leaves _ (expression_leaves text state p v h fuel) (λ text state p v h fuel.
        given_any state p v h fuel (value_or_fault (result_of text)) _ (λ result. well result state p v h fuel)))

    script_leaves : (script : Option (List ℕ)) → NextLeaves (script_does inner script)
    script_leaves None = done_leaves
    script_leaves (Some text) = deep (script_of text)

    branches_leave : (otherwise : Option (List ℕ)) (tests : List Test) → NextLeaves (branches_do limits inner otherwise tests)
    branches_leave otherwise [] state p v h fuel = script_leaves otherwise state p v h fuel
    branches_leave otherwise (t ∷ tests) state p v h fuel = tested_leaves t.condition _ _ (deep (script_of t.body)) (branches_leave otherwise tests) state p v h fuel

    form_leaves : (name : List ℕ) (form : Option Branches) → NextLeaves (form_does limits inner name form)
    form_leaves name None = wrong_words_leave name
    form_leaves name (Some b) = branches_leave b.otherwise b.tests

    turn_leaves : (loop : Loop) (again : Next S) → NextLeaves again → NextLeaves (turn_does inner loop again)
    turn_leaves loop again k state p v h fuel =
        body_leaves _ (deep (script_of loop.body) state p v h fuel) (λ state p v h fuel. next_leaves _ (script_leaves loop.next state p v h fuel) k)

    turns_leave : (most : ℕ) (loop : Loop) → NextLeaves (turns limits most inner loop)
    turns_leave zero loop state p v h fuel = record { has = tt }
    turns_leave (suc most) loop state p v h fuel = tested_leaves loop.condition _ _ (turn_leaves loop _ (turns_leave most loop)) done_leaves state p v h fuel

    loop_leaves : (loop : Loop) → NextLeaves (loop_does limits inner loop)
    loop_leaves loop state p v h fuel = turns_leave fuel loop state p v h fuel

    while_leaves : (name : List ℕ) (words : List (List ℕ)) → NextLeaves (while_does limits inner name words)
    while_leaves name [] = wrong_words_leave name
    while_leaves name (condition ∷ []) = wrong_words_leave name
    while_leaves name (condition ∷ (body ∷ [])) = loop_leaves (record { condition = condition; next = None; body = body })
    while_leaves name (condition ∷ (body ∷ (third ∷ words))) = wrong_words_leave name

    for_leaves : (name : List ℕ) (words : List (List ℕ)) → NextLeaves (for_does limits inner name words)
    for_leaves name [] state p v h fuel = wrong_words_leave name state p v h fuel
    for_leaves name (start ∷ []) state p v h fuel = wrong_words_leave name state p v h fuel
    for_leaves name (start ∷ (condition ∷ [])) state p v h fuel = wrong_words_leave name state p v h fuel
    for_leaves name (start ∷ (condition ∷ (next ∷ []))) state p v h fuel = wrong_words_leave name state p v h fuel
    for_leaves name (start ∷ (condition ∷ (next ∷ (body ∷ [])))) state p v h fuel =
        after_leaves _ (deep (script_of start) state p v h fuel) (λ text. loop_leaves (record { condition = condition; next = Some next; body = body }))
    for_leaves name (start ∷ (condition ∷ (next ∷ (body ∷ (fifth ∷ words))))) state p v h fuel = wrong_words_leave name state p v h fuel

    catch_ends_leave : (name : Option (List ℕ)) → IfSome name (TextFits limits) → (code : ℕ) (text : List ℕ) → NextLeaves (catch_ends limits name code text)
    catch_ends_leave None f code text state p v h fuel = well (decimal code) state p v h fuel
    catch_ends_leave (Some name) f code text state p v h fuel =
        given_leaves (ChangedFits limits) state p v h fuel (stores limits name v text) _ (stores_fit limits name f v h text) (λ stored k. well (decimal code) state p stored.1 k.1 fuel)

    catch_leaves : (first : List ℕ) (words : List (List ℕ)) → TextsFit limits words → NextLeaves (catch_does limits inner first words)
    catch_leaves first [] w state p v h fuel = wrong_words_leave first state p v h fuel
    catch_leaves first (script ∷ []) w state p v h fuel = caught_leaves _ (deep (script_of script) state p v h fuel) (catch_ends_leave None tt)
    catch_leaves first (script ∷ (name ∷ [])) w state p v h fuel =
        caught_leaves _ (deep (script_of script) state p v h fuel) (catch_ends_leave (Some name) (first_word limits name [] (other_words limits script (name ∷ []) w)))
    catch_leaves first (script ∷ (name ∷ (third ∷ words))) w state p v h fuel = wrong_words_leave first state p v h fuel

    eval_leaves : (words : List (List ℕ)) → NextLeaves (eval_does limits inner words)
    eval_leaves words state p v h fuel = given_any state p v h fuel (within limits (concatenated words)) _ (λ text. deep (script_of text) state p v h fuel)

    each_leaves : (name body : List ℕ) (items : List (List ℕ)) → TextFits limits name → NextLeaves (each limits inner name body items)
    each_leaves name body [] f state p v h fuel = done_leaves state p v h fuel
    each_leaves name body (item ∷ items) f state p v h fuel =
        step_leaves fuel _ (λ fuel. given_leaves (ChangedFits limits) state p v h fuel (stores limits name v item) _ (stores_fit limits name f v h item) (λ stored k.
        body_leaves _ (deep (script_of body) state p stored.1 k.1 fuel) (each_leaves name body items f)))

    -- the name of a `foreach` fits
    form_fits : (first : List ℕ) (words : List (List ℕ)) → TextsFit limits words → IfOk (foreach_form first words) (λ x. TextFits limits x.0)
    form_fits first [] w = tt
    form_fits first (name ∷ []) w = tt
    form_fits first (name ∷ (list ∷ [])) w = tt
    form_fits first (name ∷ (list ∷ (body ∷ []))) w = follows (λ x. TextFits limits x.0) (list_in list) _ (λ items. first_word limits name (list ∷ body ∷ []) w)
    form_fits first (name ∷ (list ∷ (body ∷ (fourth ∷ words)))) w = tt

    foreach_leaves : (name : List ℕ) (words : List (List ℕ)) → TextsFit limits words → NextLeaves (foreach_does limits inner name words)
    foreach_leaves name words w state p v h fuel =
        given_leaves (λ x. TextFits limits x.0) state p v h fuel (foreach_form name words) _ (form_fits name words w) (λ x f. each_leaves x.0 x.1 x.2 f state p v h fuel)

    procedure_leaves : (name : List ℕ) (words : List (List ℕ)) (procedure : Option Procedure) → NextLeaves (procedure_does limits inner name words procedure)
    procedure_leaves name words procedure state p v h fuel =
        given_leaves (λ x. VariablesFit limits x.1) state p v h fuel (entered limits name words v procedure) _ (entered_fits limits name words v procedure h)
        (λ x k. settled_leaves (frame_leaves (deep (script_of x.0) state p x.1 k fuel)))

    module _ (host : Meaning S) (fit : HostFits limits P host) where
      proc_form_fits : (name : List ℕ) (words : List (List ℕ)) → TextsFit limits words → (state : S) (v : Variables) → VariablesFit limits v
          → IfOk (proc_form host limits name words state v) (VariablesFit limits)
      proc_form_fits name [] w state v h = tt
      proc_form_fits name (procedure ∷ []) w state v h = tt
      proc_form_fits name (procedure ∷ (params ∷ [])) w state v h = tt
      proc_form_fits name (procedure ∷ (params ∷ (body ∷ []))) w state v h =
          let others = other_words limits procedure (params ∷ body ∷ []) w in
          one_of (VariablesFit limits) (is_taken host state procedure) _ _ tt
          (defined_fits limits procedure params body v h (first_word limits procedure (params ∷ body ∷ []) w) (first_word limits params (body ∷ []) others)
          (first_word limits body [] (other_words limits params (body ∷ []) others)))
      proc_form_fits name (procedure ∷ (params ∷ (body ∷ (fourth ∷ words)))) w state v h = tt

      proc_leaves : (name : List ℕ) (words : List (List ℕ)) → TextsFit limits words → NextLeaves (proc_does host limits name words)
      proc_leaves name words w state p v h fuel =
          given_leaves (VariablesFit limits) state p v h fuel (proc_form host limits name words state v) _ (proc_form_fits name words w state v h) (λ new k. done_leaves state p new k fuel)

      -- ---- any command

      control_leaves : (c : Control) (name : List ℕ) (words : List (List ℕ)) → TextsFit limits words → NextLeaves (control_does host limits inner c name words)
      control_leaves control.Catch name words w = catch_leaves name words w
      control_leaves control.Eval name words w = eval_leaves words
      control_leaves control.Expr name words w = expr_leaves name words
      control_leaves control.For name words w = for_leaves name words
      control_leaves control.Foreach name words w = foreach_leaves name words w
      control_leaves control.If name words w = form_leaves name (branches Condition [] words)
      control_leaves control.Proc name words w = proc_leaves name words w
      control_leaves control.While name words w = while_leaves name words

      answer_leaves : (name : List ℕ) (words : List (List ℕ)) (answer : Answer S) → AnswerFits limits P answer → NextLeaves (host_does host limits inner name words answer)
      answer_leaves name words (Comes x state' v') a state p v h fuel = plan_leaves host fit x a.0 state' a.1 v' a.2 fuel
      answer_leaves name words PassesLimit a state p v h fuel = record { has = tt }
      answer_leaves name words Unknown a state p v h fuel = procedure_leaves name words (map.get v.procedures name) state p v h fuel

      plain_leaves : (name : List ℕ) (words : List (List ℕ)) → TextsFit limits (name ∷ words) → (answer : Option commands.Answer) → IfSome answer (PlainFits limits)
          → NextLeaves (plain_does host limits inner name words answer)
      plain_leaves name words w (Some (commands.Answers code text new)) a state p v h fuel = end_leaves code text (λ e. a.0) state p new a.1 fuel
      plain_leaves name words w (Some commands.PassesLimit) a state p v h fuel = record { has = tt }
      plain_leaves name words w None a state p v h fuel =
          answer_leaves name words (host.commands state v (name ∷ words)) (fit.commands state p v h (name ∷ words) w) state p v h fuel

      command_leaves : (c : Option Control) (name : List ℕ) (words : List (List ℕ)) → TextsFit limits (name ∷ words) → NextLeaves (command_does host limits inner c name words)
      command_leaves (Some c) name words w state p v h fuel = control_leaves c name words (other_words limits name words w) state p v h fuel
      command_leaves None name words w state p v h fuel =
          plain_leaves name words w (plain limits (name ∷ words) v) (plain_fits limits (name ∷ words) w v h) state p v h fuel

      call_leaves : (words : List (List ℕ)) → TextsFit limits words → NextLeaves (call host limits inner words)
      call_leaves [] w state p v h fuel = done_leaves state p v h fuel
      call_leaves (name ∷ words) w state p v h fuel = step_leaves fuel _ (λ fuel. command_leaves (control_named name) name words w state p v h fuel)

      words_leave : (words : Words) (made : List (List ℕ)) → TextsFit limits made → NextLeaves (words_do host limits inner words made)
      words_leave no_word made w state p v h fuel = call_leaves made w state p v h fuel
      words_leave (word expand parts rest) made w state p v h fuel =
          after_has Fitting (FailsFit limits) (λ code text e q _. q) _ (parts_fit parts [] (empty_fits limits) state p v h fuel) (λ text q state p v h fuel.
          given_leaves (TextsFit limits) state p v h fuel (words_in expand text) _ (words_in_fit limits expand text q) (λ more k.
          words_leave rest (made ++ more) (appended_so (fits limits) made more w k) state p v h fuel))

      commands_leave : (script : Script) (last : List ℕ) → NextLeaves (commands_do host limits inner script last)
      commands_leave no_command last state p v h fuel = well last state p v h fuel
      commands_leave (faulty fault) last state p v h fuel = fails_leave fault state p v h fuel
      commands_leave (command words rest) last state p v h fuel = after_leaves _ (words_leave words [] refl state p v h fuel) (commands_leave rest)

  -- ---- whole scripts

  -- a script that is settled leaves what the script does
  pub settled_fits : (o : Outcome S) → EndFits o → EndFits (settled limits o)
  settled_fits o h = (settled_leaves {o = o} (record { has = h })).has

  module _ (host : Meaning S) (fit : HostFits limits P host) where
    run_leaves : (depth : ℕ) → LevelLeaves (evaluate host limits depth)
    run_leaves zero script state p v h fuel = record { has = tt }
    run_leaves (suc depth) script state p v h fuel = commands_leave (evaluate host limits depth) (run_leaves depth) host fit script [] state p v h fuel

    -- a script leaves what fits, and a text that does where its code isn't 0
    pub evaluate_fits : (depth : ℕ) (script : Script) (state : S) → P state → (v : Variables) → VariablesFit limits v → (fuel : ℕ) → EndFits (evaluate host limits depth script state v fuel)
    evaluate_fits depth script state p v h fuel = (run_leaves depth script state p v h fuel).has

    -- so does a thing that was taken out
    pub taken_fits : (depth : ℕ) (taken : Taken S) → TakenFits limits P taken → (state : S) → P state → (v : Variables) → VariablesFit limits v → (fuel : ℕ)
        → EndFits (after_taken taken state v fuel (thing_does host limits (evaluate host limits depth)))
    taken_fits depth taken t state p v h fuel =
        (taken_leaves taken t state p v h fuel (thing_does host limits (evaluate host limits depth)) (thing_leaves (evaluate host limits depth) (run_leaves depth) host fit)).has
