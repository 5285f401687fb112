-- No run leaves more steps than it was given.
use Rattle.std.proofs.Common.{◌==◌, ◌||◌, ◌≤◌, ℕ, zero, suc, Bool, true, false, cond, codes, List, [], ◌∷◌, ◌++◌, Option, Some, None, Result, Ok, Err, arith}
use Rattle.std.specs.Fmt.{decimal}
use Rattle.std.specs.FinMap as map
use Rattle.tks_text.specs.Fault.{fault_text, fault_about}
use Rattle.tks_text.specs.declared.fault.ErrorNumber.TheVariants.{WrongWords, OutsideLoop}
use Rattle.tks_text.specs.declared.fault.ScriptFault.{ScriptFault}
use Rattle.tks_text.specs.declared.limits.Limits.{Limits}
use Rattle.tks_parse.specs.Tree.{Script, no_command, faulty, command, Words, no_word, word, Parts, no_part, char, variable, element, nested}
use Rattle.tks_parse.specs.Reading.{script_of}
use Rattle.tks_vars.specs.Variables.{Variables, pushed_global}
use Rattle.tks_vars.specs.declared.procedure.Procedure.{Procedure}
use Rattle.tks_tcl.specs.Cause.{Cause, Fault, OverLimit, value_or_fault, bare, within}
use Rattle.tks_text.specs.Limits.{fits}
use Rattle.tks_tcl.specs.Plain as commands
use Rattle.tks_tcl.specs.Plain.{plain}
use Rattle.tks_tcl.specs.Lists.{concatenated, joined_by}
use Rattle.tks_tcl.specs.Variables.{stores}
use Rattle.tks_expr.specs.Tree.{Expr, Literal, Made, One, Two, Both, Either, Conditional}
use Rattle.tks_expr.specs.Operation.{truth_of, applied, applied_unary, result_of}
use Rattle.tks_expr.specs.Reading.{expr_of}
use Rattle.tks_expr.specs.Value.{told, by_condition, truth_text}
use Rattle.tks_eval.specs.Outcome.{Outcome, End, Stopped, OutOfSteps, TooLarge, Next, Level, Answer, Unknown, Comes, PassesLimit, Taken, Nothing, Takes, TooMuch, Meaning, after_step, after, after_taken, after_body, after_next, caught, appended, fails, given}
use Rattle.tks_eval.specs.Names.{Control, control_named}
use Rattle.tks_eval.specs.Names as control
use Rattle.tks_eval.specs.Branches.{Test, Branches, Condition, branches}
use Rattle.tks_eval.specs.Procedures.{entered, proc_form}
use Rattle.tks_eval.specs.Evaluation.{Loop, element_name, with_value, words_in, foreach_form, text_done, and_then, done, without_frame, returned, at_global, global_does, after_script, scripts_do, plan_with, noted, thing_with, things_do, update_does, plan_does, parts_do, made_text, value_does, expression_does, if_holds, after_truth, tested, wrong_words, result_told, expr_does, script_does, branches_do, form_does, behind_body, turn_does, turns, loop_does, while_does, for_does, catch_ends, catch_does, each, settled, procedure_does, control_does, host_does, plain_does, command_does, call, words_do, commands_do, evaluate}
use Rattle.tks_eval.specs.declared.host.Due.{Due}
use Rattle.tks_eval.specs.declared.host.Plan.{Plan}
use Rattle.tks_eval.specs.declared.host.Plan.TheVariants as plan

module _ {S : Type 0} where
  -- no more steps are left than so many
  abbrev pub Spends : ℕ → Outcome S → Type 0
  Spends bound (Stopped why) = Unit {0}
  Spends bound (End code text state variables fuel) = fuel ≤ bound

  -- scripts leave no more steps than they were given
  abbrev pub Thrifty : Level S → Type 0
  Thrifty inner = (script : Script) (state : S) (variables : Variables) (fuel : ℕ) → Spends fuel (inner script state variables fuel)

  -- what goes on spends, wherever it begins below a bound
  abbrev pub Within : ℕ → Next S → Type 0
  Within bound next = (state : S) (variables : Variables) (fuel : ℕ) → fuel ≤ bound → Spends bound (next state variables fuel)

  pub spends_less : (outcome : Outcome S) (a b : ℕ) → a ≤ b → Spends a outcome → Spends b outcome
  spends_less (Stopped why) a b h k = tt
  spends_less (End code text state variables fuel) a b h k = omega (arith, h, k)

  -- ---- sequencing

  pub after_spends : (bound : ℕ) (outcome : Outcome S) (next : List ℕ → Next S) → Spends bound outcome → ((x : List ℕ) → Within bound (next x)) → Spends bound (after outcome next)
  after_spends bound (Stopped why) next h k = tt
  after_spends bound (End code text state variables fuel) next h k = elim (code == 0) as (λ b. Spends bound (cond b (next text state variables fuel) (End code text state variables fuel))) [
    | true ↦ k text state variables fuel h
    | false ↦ h
  ]

  pub body_spends : (bound : ℕ) (outcome : Outcome S) (next : Next S) → Spends bound outcome → Within bound next → Spends bound (after_body outcome next)
  body_spends bound (Stopped why) next h k = tt
  body_spends bound (End code text state variables fuel) next h k =
      let ends : Spends bound (cond (code == 3) (End 0 [] state variables fuel) (End code text state variables fuel)) =
      elim (code == 3) as (λ b. Spends bound (cond b (End 0 [] state variables fuel) (End code text state variables fuel))) [ true ↦ h | false ↦ h ] in
      let goes : Spends bound (cond (code == 4) (next state variables fuel) (cond (code == 3) (End 0 [] state variables fuel) (End code text state variables fuel))) =
      elim (code == 4) as (λ b. Spends bound (cond b (next state variables fuel) (cond (code == 3) (End 0 [] state variables fuel) (End code text state variables fuel)))) [ true ↦ k state variables fuel h | false ↦ ends ] in
      elim (code == 0) as (λ b. Spends bound (cond b (next state variables fuel) (cond (code == 4) (next state variables fuel) (cond (code == 3) (End 0 [] state variables fuel) (End code text state variables fuel))))) [
        | true ↦ k state variables fuel h
        | false ↦ goes
      ]

  pub next_spends : (bound : ℕ) (outcome : Outcome S) (next : Next S) → Spends bound outcome → Within bound next → Spends bound (after_next outcome next)
  next_spends bound (Stopped why) next h k = tt
  next_spends bound (End code text state variables fuel) next h k =
      let ends : Spends bound (cond (code == 3) (End 0 [] state variables fuel) (End code text state variables fuel)) =
      elim (code == 3) as (λ b. Spends bound (cond b (End 0 [] state variables fuel) (End code text state variables fuel))) [ true ↦ h | false ↦ h ] in
      elim (code == 0) as (λ b. Spends bound (cond b (next state variables fuel) (cond (code == 3) (End 0 [] state variables fuel) (End code text state variables fuel)))) [
        | true ↦ k state variables fuel h
        | false ↦ ends
      ]

  pub caught_spends : (bound : ℕ) (outcome : Outcome S) (next : ℕ → List ℕ → Next S) → Spends bound outcome → ((code : ℕ) (x : List ℕ) → Within bound (next code x)) → Spends bound (caught outcome next)
  caught_spends bound (Stopped why) next h k = tt
  caught_spends bound (End code text state variables fuel) next h k = k code text state variables fuel h

  pub step_spends : (bound fuel : ℕ) (next : ℕ → Outcome S) → fuel ≤ bound → ((less : ℕ) → less ≤ bound → Spends bound (next less)) → Spends bound (after_step fuel next)
  step_spends bound zero next h k = tt
  step_spends bound (suc fuel) next h k = k fuel (omega (arith, h))

  taken_spends : (bound : ℕ) (taken : Taken S) (state : S) (variables : Variables) (fuel : ℕ) (next : Plan → Next S) → fuel ≤ bound → ((p : Plan) → Within bound (next p))
      → Spends bound (after_taken taken state variables fuel next)
  taken_spends bound Nothing state variables fuel next h k = h
  taken_spends bound (Takes p state') state variables fuel next h k = k p state' variables fuel h
  taken_spends bound TooMuch state variables fuel next h k = tt

  pub script_spends : (inner : Level S) → Thrifty inner → (script : Script) (bound : ℕ) → Within bound (inner script)
  script_spends inner thrifty script bound state variables fuel h = spends_less (inner script state variables fuel) fuel bound h (thrifty script state variables fuel)

  frame_spends : (bound : ℕ) (outcome : Outcome S) → Spends bound outcome → Spends bound (without_frame outcome)
  frame_spends bound (Stopped why) h = tt
  frame_spends bound (End code text state variables fuel) h = h

  returned_spends : (bound : ℕ) (outcome : Outcome S) → Spends bound outcome → Spends bound (returned outcome)
  returned_spends bound (Stopped why) h = tt
  returned_spends bound (End code text state variables fuel) h =
      elim (code == 2) as (λ b. Spends bound (cond b (End 0 text state variables fuel) (End code text state variables fuel))) [ true ↦ h | false ↦ h ]

  at_global_spends : (inner : Level S) → Thrifty inner → (text : List ℕ) (bound : ℕ) → Within bound (at_global inner text)
  at_global_spends inner thrifty text bound state variables fuel h =
      frame_spends bound (inner (script_of text) state (pushed_global variables) fuel) (script_spends inner thrifty (script_of text) bound state (pushed_global variables) fuel h)

  global_spends : (inner : Level S) → Thrifty inner → (text : List ℕ) (bound : ℕ) → Within bound (global_does inner text)
  global_spends inner thrifty text bound state variables fuel h =
      returned_spends bound (at_global inner text state variables fuel) (at_global_spends inner thrifty text bound state variables fuel h)

  module _ (limits : Limits) where
    pub fails_spends : (fault : ScriptFault) (bound : ℕ) → Within bound (fails limits fault)
    fails_spends fault bound state variables fuel h = elim (fits limits (fault_text fault)) as (λ b. Spends bound (cond b (End 1 (fault_text fault) state variables fuel) (Stopped TooLarge))) [ true ↦ h | false ↦ tt ]

    pub given_spends : {X : Type 0} (bound : ℕ) (value : Result X Cause) (state : S) (variables : Variables) (fuel : ℕ) (next : X → Outcome S)
        → fuel ≤ bound → ((x : X) → Spends bound (next x)) → Spends bound (given limits value state variables fuel next)
    given_spends bound (Ok x) state variables fuel next h k = k x
    given_spends bound (Err (Fault fault)) state variables fuel next h k = fails_spends fault bound state variables fuel h
    given_spends bound (Err OverLimit) state variables fuel next h k = tt

    settled_spends : (bound : ℕ) (outcome : Outcome S) → Spends bound outcome → Spends bound (settled limits outcome)
    settled_spends bound (Stopped why) h = tt
    settled_spends bound (End code text state variables fuel) h =
        let ends : Spends bound (cond (code == 3 || code == 4) (fails limits (bare OutsideLoop) state variables fuel) (End code text state variables fuel)) =
        elim (code == 3 || code == 4) as (λ b. Spends bound (cond b (fails limits (bare OutsideLoop) state variables fuel) (End code text state variables fuel))) [
          | true ↦ fails_spends (bare OutsideLoop) bound state variables fuel h
          | false ↦ h
        ] in
        elim (code == 2) as (λ b. Spends bound (cond b (End 0 text state variables fuel) (cond (code == 3 || code == 4) (fails limits (bare OutsideLoop) state variables fuel) (End code text state variables fuel)))) [
          | true ↦ h
          | false ↦ ends
        ]

    module _ (inner : Level S) (thrifty : Thrifty inner) where
      -- ---- words and values

      parts_spend : (parts : Parts) (made : List ℕ) (bound : ℕ) → Within bound (parts_do limits inner parts made)
      parts_spend no_part made bound state variables fuel h = h
      parts_spend (char c rest) made bound state variables fuel h =
          given_spends bound (appended limits made (c ∷ [])) state variables fuel (λ made. parts_do limits inner rest made state variables fuel) h
          (λ made. parts_spend rest made bound state variables fuel h)
      parts_spend (variable name rest) made bound state variables fuel h =
          given_spends bound (with_value limits variables name made) state variables fuel (λ made. parts_do limits inner rest made state variables fuel) h
          (λ made. parts_spend rest made bound state variables fuel h)
      parts_spend (element name index rest) made bound state variables fuel h =
          after_spends bound (parts_do limits inner index [] state variables fuel)
          (λ at s v u. given limits (with_value limits v (element_name name at) made) s v u (λ made. parts_do limits inner rest made s v u))
          (parts_spend index [] bound state variables fuel h)
          (λ at s v u k. given_spends bound (with_value limits v (element_name name at) made) s v u (λ made. parts_do limits inner rest made s v u) k
          (λ made. parts_spend rest made bound s v u k))
      parts_spend (nested script rest) made bound state variables fuel h =
          after_spends bound (inner script state variables fuel) (λ text s v u. given limits (appended limits made text) s v u (λ made. parts_do limits inner rest made s v u))
          (script_spends inner thrifty script bound state variables fuel h)
          (λ text s v u k. given_spends bound (appended limits made text) s v u (λ made. parts_do limits inner rest made s v u) k (λ made. parts_spend rest made bound s v u k))

      -- a text or an error, and what follows on the truth of one
      abbrev told_text : Result (List ℕ) ScriptFault → Next S
      told_text = told text_done (fails limits) and_then (made_text limits inner)

      abbrev by_truth : List ℕ → Next S → Next S → Next S
      by_truth text = by_condition text_done (fails limits) and_then (made_text limits inner) (truth_of text)

      abbrev truth_told : List ℕ → Next S
      truth_told = truth_text text_done (fails limits) and_then (made_text limits inner)

      told_spends : (value : Result (List ℕ) ScriptFault) (bound : ℕ) → Within bound (told_text value)
      told_spends (Ok x) bound state variables fuel h = h
      told_spends (Err fault) bound state variables fuel h = fails_spends fault bound state variables fuel h

      by_condition_spends : (value : Result Bool ScriptFault) (first second : Next S) (bound : ℕ) → Within bound first → Within bound second
          → Within bound (by_condition text_done (fails limits) and_then (made_text limits inner) value first second)
      by_condition_spends (Ok true) first second bound f g state variables fuel h = f state variables fuel h
      by_condition_spends (Ok false) first second bound f g state variables fuel h = g state variables fuel h
      by_condition_spends (Err fault) first second bound f g state variables fuel h = fails_spends fault bound state variables fuel h

      text_spends : (text : List ℕ) (bound : ℕ) → Within bound (text_done text)
      text_spends text bound state variables fuel h = h

      truth_spends : (text : List ℕ) (bound : ℕ) → Within bound (truth_told text)
      truth_spends text bound = by_condition_spends (truth_of text) (text_done (codes "1")) (text_done (codes "0")) bound (text_spends (codes "1") bound) (text_spends (codes "0") bound)

      value_spends : (e : Expr) (bound : ℕ) → Within bound (value_does limits inner e)
      value_spends (Literal text) bound state variables fuel h = h
      value_spends (Made parts) bound state variables fuel h = parts_spend parts [] bound state variables fuel h
      value_spends (One op a) bound state variables fuel h =
          after_spends bound (value_does limits inner a state variables fuel) (λ x. told_text (applied_unary op x))
          (value_spends a bound state variables fuel h) (λ x. told_spends (applied_unary op x) bound)
      value_spends (Two op a b) bound state variables fuel h =
          after_spends bound (value_does limits inner a state variables fuel) (λ x s v u. after (value_does limits inner b s v u) (λ y. told_text (applied op x y)))
          (value_spends a bound state variables fuel h)
          (λ x s v u k. after_spends bound (value_does limits inner b s v u) (λ y. told_text (applied op x y)) (value_spends b bound s v u k) (λ y. told_spends (applied op x y) bound))
      value_spends (Both a b) bound state variables fuel h =
          let right : Within bound (and_then (value_does limits inner b) (truth_told)) =
          λ s v u k. after_spends bound (value_does limits inner b s v u) (truth_told) (value_spends b bound s v u k) (λ y. truth_spends y bound) in
          after_spends bound (value_does limits inner a state variables fuel) (λ x. by_truth x (and_then (value_does limits inner b) (truth_told)) (text_done (codes "0")))
          (value_spends a bound state variables fuel h)
          (λ x. by_condition_spends (truth_of x) (and_then (value_does limits inner b) (truth_told)) (text_done (codes "0")) bound right (text_spends (codes "0") bound))
      value_spends (Either a b) bound state variables fuel h =
          let right : Within bound (and_then (value_does limits inner b) (truth_told)) =
          λ s v u k. after_spends bound (value_does limits inner b s v u) (truth_told) (value_spends b bound s v u k) (λ y. truth_spends y bound) in
          after_spends bound (value_does limits inner a state variables fuel) (λ x. by_truth x (text_done (codes "1")) (and_then (value_does limits inner b) (truth_told)))
          (value_spends a bound state variables fuel h)
          (λ x. by_condition_spends (truth_of x) (text_done (codes "1")) (and_then (value_does limits inner b) (truth_told)) bound (text_spends (codes "1") bound) right)
      value_spends (Conditional c a b) bound state variables fuel h =
          after_spends bound (value_does limits inner c state variables fuel) (λ x. by_truth x (value_does limits inner a) (value_does limits inner b))
          (value_spends c bound state variables fuel h)
          (λ x. by_condition_spends (truth_of x) (value_does limits inner a) (value_does limits inner b) bound (value_spends a bound) (value_spends b bound))

      pub expression_spends : (text : List ℕ) (bound : ℕ) → Within bound (expression_does limits inner text)
      expression_spends text bound state variables fuel h =
          given_spends bound (value_or_fault (expr_of text)) state variables fuel (λ e. value_does limits inner e state variables fuel) h (λ e. value_spends e bound state variables fuel h)

      if_holds_spends : (holds : Bool) (first second : Next S) (bound : ℕ) → Within bound first → Within bound second → Within bound (if_holds holds first second)
      if_holds_spends true first second bound f g = f
      if_holds_spends false first second bound f g = g

      pub tested_spends : (condition : List ℕ) (first second : Next S) (bound : ℕ) → Within bound first → Within bound second → Within bound (tested limits inner condition first second)
      tested_spends condition first second bound f g state variables fuel h =
          step_spends bound fuel (λ u. after_truth limits (expression_does limits inner condition state variables u) first second) h (λ less k.
          after_spends bound (expression_does limits inner condition state variables less)
          (λ text s v u. given limits (value_or_fault (truth_of text)) s v u (λ holds. if_holds holds first second s v u))
          (expression_spends condition bound state variables less k)
          (λ text s v u l. given_spends bound (value_or_fault (truth_of text)) s v u (λ holds. if_holds holds first second s v u) l (λ holds. if_holds_spends holds first second bound f g s v u l)))

      -- ---- commands that run scripts

      pub optional_spends : (text : Option (List ℕ)) (bound : ℕ) → Within bound (script_does inner text)
      optional_spends None bound state variables fuel h = h
      optional_spends (Some text) bound state variables fuel h = script_spends inner thrifty (script_of text) bound state variables fuel h

      branches_spend : (otherwise : Option (List ℕ)) (tests : List Test) (bound : ℕ) → Within bound (branches_do limits inner otherwise tests)
      branches_spend otherwise [] bound state variables fuel h = optional_spends otherwise bound state variables fuel h
      branches_spend otherwise (t ∷ tests) bound state variables fuel h =
          tested_spends t.condition (inner (script_of t.body)) (branches_do limits inner otherwise tests) bound
          (script_spends inner thrifty (script_of t.body) bound) (branches_spend otherwise tests bound) state variables fuel h

      form_spends : (first : List ℕ) (form : Option Branches) (bound : ℕ) → Within bound (form_does limits inner first form)
      form_spends first None bound state variables fuel h = fails_spends (fault_about WrongWords first) bound state variables fuel h
      form_spends first (Some b) bound state variables fuel h = branches_spend b.otherwise b.tests bound state variables fuel h

      behind_spends : (loop : Loop) (again : Next S) (bound : ℕ) → Within bound again → Within bound (behind_body inner loop again)
      behind_spends loop again bound f state variables fuel h =
          next_spends bound (script_does inner loop.next state variables fuel) again (optional_spends loop.next bound state variables fuel h) f

      turn_spends : (loop : Loop) (again : Next S) (bound : ℕ) → Within bound again → Within bound (turn_does inner loop again)
      turn_spends loop again bound f state variables fuel h =
          body_spends bound (inner (script_of loop.body) state variables fuel) (behind_body inner loop again)
          (script_spends inner thrifty (script_of loop.body) bound state variables fuel h) (behind_spends loop again bound f)

      done_spends : (bound : ℕ) → Within bound done
      done_spends bound state variables fuel h = h

      turns_spend : (more : ℕ) (loop : Loop) (bound : ℕ) → Within bound (turns limits more inner loop)
      turns_spend zero loop bound state variables fuel h = tt
      turns_spend (suc more) loop bound state variables fuel h =
          tested_spends loop.condition (turn_does inner loop (turns limits more inner loop)) done bound
          (turn_spends loop (turns limits more inner loop) bound (turns_spend more loop bound)) (done_spends bound) state variables fuel h

      loop_spends : (loop : Loop) (bound : ℕ) → Within bound (loop_does limits inner loop)
      loop_spends loop bound state variables fuel h = turns_spend fuel loop bound state variables fuel h

      each_spends : (name body : List ℕ) (items : List (List ℕ)) (bound : ℕ) → Within bound (each limits inner name body items)
      each_spends name body [] bound state variables fuel h = h
      each_spends name body (item ∷ items) bound state variables fuel h =
          step_spends bound fuel (λ u. given limits (stores limits name variables item) state variables u (λ stored.
          after_body (inner (script_of body) state stored.1 u) (each limits inner name body items))) h (λ less k.
          given_spends bound (stores limits name variables item) state variables less
          (λ stored. after_body (inner (script_of body) state stored.1 less) (each limits inner name body items)) k (λ stored.
          body_spends bound (inner (script_of body) state stored.1 less) (each limits inner name body items)
          (script_spends inner thrifty (script_of body) bound state stored.1 less k) (each_spends name body items bound)))

      catch_end_spends : (name : Option (List ℕ)) (code : ℕ) (text : List ℕ) (bound : ℕ) → Within bound (catch_ends limits name code text)
      catch_end_spends None code text bound state variables fuel h = h
      catch_end_spends (Some name) code text bound state variables fuel h =
          given_spends bound (stores limits name variables text) state variables fuel (λ stored. End 0 (decimal code) state stored.1 fuel) h (λ stored. h)

      wrong_spends : (first : List ℕ) (bound : ℕ) → Within bound (wrong_words limits first)
      wrong_spends first bound state variables fuel h = fails_spends (fault_about WrongWords first) bound state variables fuel h

      catch_spends : (first : List ℕ) (words : List (List ℕ)) (bound : ℕ) → Within bound (catch_does limits inner first words)
      catch_spends first [] bound state variables fuel h = wrong_spends first bound state variables fuel h
      catch_spends first (script ∷ []) bound state variables fuel h =
          caught_spends bound (inner (script_of script) state variables fuel) (catch_ends limits None)
          (script_spends inner thrifty (script_of script) bound state variables fuel h) (λ code x. catch_end_spends None code x bound)
      catch_spends first (script ∷ name ∷ []) bound state variables fuel h =
          caught_spends bound (inner (script_of script) state variables fuel) (catch_ends limits (Some name))
          (script_spends inner thrifty (script_of script) bound state variables fuel h) (λ code x. catch_end_spends (Some name) code x bound)
      catch_spends first (script ∷ name ∷ w ∷ words) bound state variables fuel h = wrong_spends first bound state variables fuel h

      expr_spends : (first : List ℕ) (words : List (List ℕ)) (bound : ℕ) → Within bound (expr_does limits inner first words)
      expr_spends first [] bound state variables fuel h = wrong_spends first bound state variables fuel h
      expr_spends first (w ∷ words) bound state variables fuel h =
          given_spends bound (within limits (joined_by (codes " ") (w ∷ words))) state variables fuel
          (λ text. result_told limits (expression_does limits inner text state variables fuel)) h (λ text.
          after_spends bound (expression_does limits inner text state variables fuel)
          (λ text s v u. given limits (value_or_fault (result_of text)) s v u (λ result. End 0 result s v u))
          (expression_spends text bound state variables fuel h)
          (λ text s v u k. given_spends bound (value_or_fault (result_of text)) s v u (λ result. End 0 result s v u) k (λ result. k)))

      while_spends : (first : List ℕ) (words : List (List ℕ)) (bound : ℕ) → Within bound (while_does limits inner first words)
      while_spends first [] bound state variables fuel h = wrong_spends first bound state variables fuel h
      while_spends first (c ∷ []) bound state variables fuel h = wrong_spends first bound state variables fuel h
      while_spends first (c ∷ b ∷ []) bound state variables fuel h = loop_spends (record { condition = c; body = b; next = None }) bound state variables fuel h
      while_spends first (c ∷ b ∷ w ∷ words) bound state variables fuel h = wrong_spends first bound state variables fuel h

      for_spends : (first : List ℕ) (words : List (List ℕ)) (bound : ℕ) → Within bound (for_does limits inner first words)
      for_spends first [] bound state variables fuel h = wrong_spends first bound state variables fuel h
      for_spends first (a ∷ []) bound state variables fuel h = wrong_spends first bound state variables fuel h
      for_spends first (a ∷ c ∷ []) bound state variables fuel h = wrong_spends first bound state variables fuel h
      for_spends first (a ∷ c ∷ n ∷ []) bound state variables fuel h = wrong_spends first bound state variables fuel h
      for_spends first (a ∷ c ∷ n ∷ b ∷ []) bound state variables fuel h =
          after_spends bound (inner (script_of a) state variables fuel) (λ text. loop_does limits inner (record { condition = c; body = b; next = Some n }))
          (script_spends inner thrifty (script_of a) bound state variables fuel h) (λ text. loop_spends (record { condition = c; body = b; next = Some n }) bound)
      for_spends first (a ∷ c ∷ n ∷ b ∷ w ∷ words) bound state variables fuel h = wrong_spends first bound state variables fuel h

      procedure_spends : (first : List ℕ) (words : List (List ℕ)) (procedure : Option Procedure) (bound : ℕ) → Within bound (procedure_does limits inner first words procedure)
      procedure_spends first words procedure bound state variables fuel h =
          given_spends bound (entered limits first words variables procedure) state variables fuel (λ x. settled limits (without_frame (inner (script_of x.0) state x.1 fuel))) h (λ x.
          settled_spends bound (without_frame (inner (script_of x.0) state x.1 fuel))
          (frame_spends bound (inner (script_of x.0) state x.1 fuel) (script_spends inner thrifty (script_of x.0) bound state x.1 fuel h)))

module _ {S : Type 0} (host : Meaning S) where
  script_ended_spends : (bound : ℕ) (outcome : Outcome S) (next : Next S) → Spends bound outcome → Within bound next → Spends bound (after_script host outcome next)
  script_ended_spends bound (Stopped why) next h k = tt
  script_ended_spends bound (End code text state variables fuel) next h k =
      let goes : Spends bound (cond (code == 3) (End 0 [] state variables fuel) (next state variables fuel)) =
      elim (code == 3) as (λ b. Spends bound (cond b (End 0 [] state variables fuel) (next state variables fuel))) [ true ↦ h | false ↦ k state variables fuel h ] in
      elim (code == 1) as (λ b. Spends bound (cond b (End 0 [] (host.faulted state text) variables fuel) (cond (code == 3) (End 0 [] state variables fuel) (next state variables fuel)))) [
        | true ↦ h
        | false ↦ goes
      ]

  module _ (inner : Level S) (thrifty : Thrifty inner) where
    scripts_spend : (window : ℕ) (scripts : List (List ℕ)) (bound : ℕ) → Within bound (scripts_do host inner window scripts)
    scripts_spend window [] bound state variables fuel h = h
    scripts_spend window (script ∷ scripts) bound state variables fuel h =
        let step : ℕ → Outcome S = λ u. after_script host (at_global inner script state variables u) (scripts_do host inner window scripts) in
        elim (host.alive state window) as (λ b. Spends bound (cond b (after_step fuel step) (End 0 [] state variables fuel))) [
          | true ↦ step_spends bound fuel step h (λ less k.
              script_ended_spends bound (at_global inner script state variables less) (scripts_do host inner window scripts)
              (at_global_spends inner thrifty script bound state variables less k) (scripts_spend window scripts bound))
          | false ↦ h
        ]

    plan_with_spends : (update : Due → Next S) → ((due : Due) (bound : ℕ) → Within bound (update due)) → (p : Plan) (bound : ℕ) → Within bound (plan_with host update inner p)
    plan_with_spends update k (plan.Answer code text) bound state variables fuel h = h
    plan_with_spends update k (plan.Eval script) bound state variables fuel h = global_spends inner thrifty script bound state variables fuel h
    plan_with_spends update k (plan.Dispatch window scripts) bound state variables fuel h = scripts_spend window scripts bound state variables fuel h
    plan_with_spends update k (plan.Update due) bound state variables fuel h = k due bound state variables fuel h

  noted_spends : (bound : ℕ) (outcome : Outcome S) → Spends bound outcome → Spends bound (noted host outcome)
  noted_spends bound (Stopped why) h = tt
  noted_spends bound (End code text state variables fuel) h =
      elim (code == 0) as (λ b. Spends bound (cond b (End 0 [] state variables fuel) (End 0 [] (host.faulted state text) variables fuel))) [ true ↦ h | false ↦ h ]

module _ {S : Type 0} (host : Meaning S) (limits : Limits) where
  module _ (inner : Level S) (thrifty : Thrifty inner) where
    -- ---- things that wait

    pub thing_with_spends : (update : Due → Next S) → ((due : Due) (bound : ℕ) → Within bound (update due)) → (p : Plan) (bound : ℕ) → Within bound (thing_with host limits update inner p)
    thing_with_spends update k p bound state variables fuel h =
        noted_spends host bound (settled limits (plan_with host update inner p state variables fuel))
        (settled_spends limits bound (plan_with host update inner p state variables fuel) (plan_with_spends host inner thrifty update k p bound state variables fuel h))

    pub things_spend : (most : ℕ) (due : Due) (bound : ℕ) → Within bound (things_do host limits most inner due)
    things_spend zero due bound state variables fuel h =
        taken_spends bound (host.next due state) state variables fuel (λ p s v u. Stopped OutOfSteps) h (λ p s v u k. tt)
    things_spend (suc most) due bound state variables fuel h =
        taken_spends bound (host.next due state) state variables fuel
        (λ p s v u. after_step u (λ u. caught (thing_with host limits (things_do host limits most inner) inner p s v u) (λ code text. things_do host limits most inner due))) h
        (λ p s v u k. step_spends bound u (λ u. caught (thing_with host limits (things_do host limits most inner) inner p s v u) (λ code text. things_do host limits most inner due)) k (λ less l.
        caught_spends bound (thing_with host limits (things_do host limits most inner) inner p s v less) (λ code text. things_do host limits most inner due)
        (thing_with_spends (things_do host limits most inner) (things_spend most) p bound s v less l) (λ code text. things_spend most due bound)))

    update_spends : (due : Due) (bound : ℕ) → Within bound (update_does host limits inner due)
    update_spends due bound state variables fuel h = things_spend fuel due bound state variables fuel h

    plan_spends : (p : Plan) (bound : ℕ) → Within bound (plan_does host limits inner p)
    plan_spends p bound state variables fuel h = plan_with_spends host inner thrifty (update_does host limits inner) update_spends p bound state variables fuel h

    -- ---- any command

    control_spends : (c : Control) (first : List ℕ) (words : List (List ℕ)) (bound : ℕ) → Within bound (control_does host limits inner c first words)
    control_spends control.Catch first words bound state variables fuel h = catch_spends limits inner thrifty first words bound state variables fuel h
    control_spends control.Eval first words bound state variables fuel h =
        given_spends limits bound (within limits (concatenated words)) state variables fuel (λ text. inner (script_of text) state variables fuel) h
        (λ text. script_spends inner thrifty (script_of text) bound state variables fuel h)
    control_spends control.Expr first words bound state variables fuel h = expr_spends limits inner thrifty first words bound state variables fuel h
    control_spends control.For first words bound state variables fuel h = for_spends limits inner thrifty first words bound state variables fuel h
    control_spends control.Foreach first words bound state variables fuel h =
        given_spends limits bound (foreach_form first words) state variables fuel (λ x. each limits inner x.0 x.1 x.2 state variables fuel) h
        (λ x. each_spends limits inner thrifty x.0 x.1 x.2 bound state variables fuel h)
    control_spends control.If first words bound state variables fuel h = form_spends limits inner thrifty first (branches Condition [] words) bound state variables fuel h
    control_spends control.Proc first words bound state variables fuel h =
        given_spends limits bound (proc_form host limits first words state variables) state variables fuel (λ new. End 0 [] state new fuel) h (λ new. h)
    control_spends control.While first words bound state variables fuel h = while_spends limits inner thrifty first words bound state variables fuel h

    host_spends : (first : List ℕ) (words : List (List ℕ)) (answer : Answer S) (bound : ℕ) → Within bound (host_does host limits inner first words answer)
    host_spends first words (Comes p state' variables') bound state variables fuel h = plan_spends p bound state' variables' fuel h
    host_spends first words PassesLimit bound state variables fuel h = tt
    host_spends first words Unknown bound state variables fuel h =
        procedure_spends limits inner thrifty first words (map.get variables.procedures first) bound state variables fuel h

    plain_spends : (first : List ℕ) (words : List (List ℕ)) (answer : Option commands.Answer) (bound : ℕ) → Within bound (plain_does host limits inner first words answer)
    plain_spends first words (Some (commands.Answers code text variables')) bound state variables fuel h = h
    plain_spends first words (Some commands.PassesLimit) bound state variables fuel h = tt
    plain_spends first words None bound state variables fuel h = host_spends first words (host.commands state variables (first ∷ words)) bound state variables fuel h

    command_spends : (c : Option Control) (first : List ℕ) (words : List (List ℕ)) (bound : ℕ) → Within bound (command_does host limits inner c first words)
    command_spends (Some c) first words bound state variables fuel h = control_spends c first words bound state variables fuel h
    command_spends None first words bound state variables fuel h = plain_spends first words (plain limits (first ∷ words) variables) bound state variables fuel h

    call_spends : (words : List (List ℕ)) (bound : ℕ) → Within bound (call host limits inner words)
    call_spends [] bound state variables fuel h = h
    call_spends (first ∷ words) bound state variables fuel h =
        step_spends bound fuel (λ u. command_does host limits inner (control_named first) first words state variables u) h
        (λ less k. command_spends (control_named first) first words bound state variables less k)

    words_spend : (words : Words) (made : List (List ℕ)) (bound : ℕ) → Within bound (words_do host limits inner words made)
    words_spend no_word made bound state variables fuel h = call_spends made bound state variables fuel h
    words_spend (word expand parts rest) made bound state variables fuel h =
        after_spends bound (parts_do limits inner parts [] state variables fuel)
        (λ text s v u. given limits (words_in expand text) s v u (λ more. words_do host limits inner rest (made ++ more) s v u))
        (parts_spend limits inner thrifty parts [] bound state variables fuel h)
        (λ text s v u k. given_spends limits bound (words_in expand text) s v u (λ more. words_do host limits inner rest (made ++ more) s v u) k
        (λ more. words_spend rest (made ++ more) bound s v u k))

    commands_spend : (script : Script) (last : List ℕ) (bound : ℕ) → Within bound (commands_do host limits inner script last)
    commands_spend no_command last bound state variables fuel h = h
    commands_spend (faulty fault) last bound state variables fuel h = fails_spends limits fault bound state variables fuel h
    commands_spend (command words rest) last bound state variables fuel h =
        after_spends bound (words_do host limits inner words [] state variables fuel) (λ text s v u. commands_do host limits inner rest text s v u)
        (words_spend words [] bound state variables fuel h) (λ text. commands_spend rest text bound)

  -- a script leaves no more steps than it was given
  pub evaluate_spends : (depth : ℕ) → Thrifty (evaluate host limits depth)
  evaluate_spends zero script state variables fuel = tt
  evaluate_spends (suc depth) script state variables fuel =
      commands_spend (evaluate host limits depth) (evaluate_spends depth) script [] fuel state variables fuel (omega arith)
