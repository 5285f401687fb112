-- What a script does (Tcl(n), rules 1, 2, 5, 7 and 8): a recursion on the scripts that may yet be opened in
-- one another, and in it on the tree. Steps, depth and limits are this project's own rule.
use Rattle.std.specs.Prelude.{ℕ, zero, suc, Bool, ◌||◌, ◌==◌, if◌then◌else◌, codes, List, [], ◌∷◌, ◌++◌, Option, Some, None, Result, Ok}
use Rattle.std.specs.Fmt.{decimal}
use Rattle.std.specs.FinMap as map
use Rattle.tks_text.specs.Fault.{fault_about}
use Rattle.tks_text.specs.declared.fault.ErrorNumber.TheVariants.{WrongWords, OutsideLoop}
use Rattle.tks_text.specs.declared.limits.Limits.{Limits}
use Rattle.tks_parse.specs.Tree.{Script, no_command, faulty, command, Words, no_word, word, Parts, no_part, char, variable, element, nested}
use Rattle.tks_parse.specs.Reading.{script_of}
use Rattle.tks_vars.specs.Variables.{Variables, value_of, pushed_global, popped}
use Rattle.tks_vars.specs.declared.procedure.Procedure.{Procedure}
use Rattle.tks_tcl.specs.Cause as tcl
use Rattle.tks_tcl.specs.Cause.{value_or_fault, bare, within}
use Rattle.tks_tcl.specs.Words.{list_in}
use Rattle.tks_tcl.specs.Lists.{concatenated, joined_by}
use Rattle.tks_tcl.specs.Plain as commands
use Rattle.tks_tcl.specs.Plain.{plain}
use Rattle.tks_tcl.specs.Variables.{stores}
use Rattle.tks_eval.specs.Outcome.{Outcome, End, Stopped, TooDeep, TooLarge, OutOfSteps, Next, Level, Answer, Unknown, Comes, PassesLimit, Meaning, after_step, after, after_taken, after_body, after_next, caught, appended, fails, given}
use Rattle.tks_eval.specs.Names.{Control, control_named}
use Rattle.tks_eval.specs.Names as control
use Rattle.tks_expr.specs.Tree.{Expr}
use Rattle.tks_expr.specs.Value.{value}
use Rattle.tks_expr.specs.Operation.{truth_of, result_of}
use Rattle.tks_expr.specs.Reading.{expr_of}
use Rattle.tks_eval.specs.Branches.{Test, Branches, Condition, branches}
use Rattle.tks_eval.specs.Procedures.{entered, proc_form}
use Rattle.tks_eval.specs.declared.host.Due.{Due}
use Rattle.tks_eval.specs.declared.host.Plan.{Plan}
use Rattle.tks_eval.specs.declared.host.Plan.TheVariants as plan

-- the name of an element
abbrev pub element_name : List ℕ → List ℕ → List ℕ
element_name name index = name ++ 40 ∷ (index ++ 41 ∷ [])

-- the value of a variable behind what is made of a word
abbrev pub with_value : Limits → Variables → List ℕ → List ℕ → Result (List ℕ) tcl.Cause
with_value limits variables name made = tcl.after (value_or_fault (value_of variables name)) (appended limits made)

-- the words that a word's text stands for: itself, or the elements that it splits into
abbrev pub words_in : Bool → List ℕ → Result (List (List ℕ)) tcl.Cause
words_in expand text = if expand then list_in text else Ok (text ∷ [])

-- the variable's name, the body and the elements of a `foreach`
abbrev pub foreach_form : List ℕ → List (List ℕ) → Result (List ℕ × List ℕ × List (List ℕ)) tcl.Cause
foreach_form first (name ∷ list ∷ body ∷ []) = tcl.after (list_in list) (λ items. Ok (name, body, items))
foreach_form first words = tcl.wrong_words first

-- a loop: its condition, its body, and the script that a `for` runs behind that
pub record Loop : Type 0 where
  pub condition : List ℕ
  pub body : List ℕ
  pub next : Option (List ℕ)

module _ {S : Type 0} where
  -- a text, as what an expression comes to
  abbrev pub text_done : List ℕ → Next S
  text_done text state variables fuel = End 0 text state variables fuel

  -- one thing after the other
  abbrev pub and_then : Next S → (List ℕ → Next S) → Next S
  and_then first next state variables fuel = after (first state variables fuel) next

  -- the end with nothing to say
  abbrev pub done : Next S
  done state variables fuel = End 0 [] state variables fuel

  -- the first of two things where something holds, else the second
  abbrev pub if_holds : Bool → Next S → Next S → Next S
  if_holds holds first second state variables fuel = if holds then first state variables fuel else second state variables fuel

  -- a script that may be left out
  abbrev pub script_does : Level S → Option (List ℕ) → Next S
  script_does inner None state variables fuel = done state variables fuel
  script_does inner (Some text) state variables fuel = inner (script_of text) state variables fuel

  -- the script that a `for` runs behind its body, and then the next turn
  abbrev pub behind_body : Level S → Loop → Next S → Next S
  behind_body inner loop again state variables fuel = after_next (script_does inner loop.next state variables fuel) again

  -- the body of a loop, and what follows it
  abbrev pub turn_does : Level S → Loop → Next S → Next S
  turn_does inner loop again state variables fuel =
      after_body (inner (script_of loop.body) state variables fuel) (behind_body inner loop again)

-- the frame of a procedure ends with it
abbrev pub without_frame : {S : Type 0} → Outcome S → Outcome S
without_frame (Stopped why) = Stopped why
without_frame (End code text state variables fuel) = End code text state (popped variables) fuel

-- a script at global level ends well by `return`; `break` and `continue` stay
abbrev pub returned : {S : Type 0} → Outcome S → Outcome S
returned (Stopped why) = Stopped why
returned (End code text state variables fuel) = if code == 2 then End 0 text state variables fuel else End code text state variables fuel

-- a script at global level: with the globals as the present frame
abbrev pub at_global : {S : Type 0} → Level S → List ℕ → Next S
at_global inner text state variables fuel = without_frame (inner (script_of text) state (pushed_global variables) fuel)

-- a script that a command of the host wants run
abbrev pub global_does : {S : Type 0} → Level S → List ℕ → Next S
global_does inner text state variables fuel = returned (at_global inner text state variables fuel)

module _ {S : Type 0} (limits : Limits) where
  -- ---- words

  -- the text of a word: what is made of it so far, and its parts behind that
  abbrev pub parts_do : Level S → Parts → List ℕ → Next S
  parts_do inner no_part made state variables fuel = End 0 made state variables fuel
  parts_do inner (char c rest) made state variables fuel =
      given limits (appended limits made (c ∷ [])) state variables fuel (λ made. parts_do inner rest made state variables fuel)
  parts_do inner (variable name rest) made state variables fuel =
      given limits (with_value limits variables name made) state variables fuel (λ made. parts_do inner rest made state variables fuel)
  parts_do inner (element name index rest) made state variables fuel =
      after (parts_do inner index [] state variables fuel) (λ at state variables fuel.
      given limits (with_value limits variables (element_name name at) made) state variables fuel (λ made.
      parts_do inner rest made state variables fuel))
  parts_do inner (nested script rest) made state variables fuel =
      after (inner script state variables fuel) (λ text state variables fuel.
      given limits (appended limits made text) state variables fuel (λ made. parts_do inner rest made state variables fuel))

  -- ---- expressions

  -- the text of an operand that variables and scripts make
  abbrev pub made_text : Level S → Parts → Next S
  made_text inner parts = parts_do inner parts []

  -- the value of an expression
  abbrev pub value_does : Level S → Expr → Next S
  value_does inner = value text_done (fails limits) and_then (made_text inner)

  -- the value of what a text spells as an expression
  abbrev pub expression_does : Level S → List ℕ → Next S
  expression_does inner text state variables fuel =
      given limits (value_or_fault (expr_of text)) state variables fuel (λ e. value_does inner e state variables fuel)

  -- what goes on where a value holds as a condition, and where it doesn't
  abbrev pub after_truth : Outcome S → Next S → Next S → Outcome S
  after_truth outcome first second =
      after outcome (λ text state variables fuel.
      given limits (value_or_fault (truth_of text)) state variables fuel (λ holds. if_holds holds first second state variables fuel))

  -- a condition takes a step before it is read
  abbrev pub tested : Level S → List ℕ → Next S → Next S → Next S
  tested inner condition first second state variables fuel =
      after_step fuel (λ fuel. after_truth (expression_does inner condition state variables fuel) first second)

  -- ---- commands that run scripts

  -- the end by a wrong number of words
  abbrev pub wrong_words : List ℕ → Next S
  wrong_words first = fails limits (fault_about WrongWords first)

  -- the result of an expression: an integer is written in decimal
  abbrev pub result_told : Outcome S → Outcome S
  result_told outcome =
      after outcome (λ text state variables fuel.
      given limits (value_or_fault (result_of text)) state variables fuel (λ result. End 0 result state variables fuel))

  -- expr word ..
  abbrev pub expr_does : Level S → List ℕ → List (List ℕ) → Next S
  expr_does inner first [] state variables fuel = wrong_words first state variables fuel
  expr_does inner first (w ∷ words) state variables fuel =
      given limits (within limits (joined_by (codes " ") (w ∷ words))) state variables fuel (λ text.
      result_told (expression_does inner text state variables fuel))

  -- the body of the first condition that holds, or the one behind all of them
  abbrev pub branches_do : Level S → Option (List ℕ) → List Test → Next S
  branches_do inner otherwise [] state variables fuel = script_does inner otherwise state variables fuel
  branches_do inner otherwise (t ∷ tests) state variables fuel =
      tested inner t.condition (inner (script_of t.body)) (branches_do inner otherwise tests) state variables fuel

  -- the branches of an `if`, where its words are of that form
  abbrev pub form_does : Level S → List ℕ → Option Branches → Next S
  form_does inner first None state variables fuel = wrong_words first state variables fuel
  form_does inner first (Some b) state variables fuel = branches_do inner b.otherwise b.tests state variables fuel

  -- if c ?then? b ?elseif c ?then? b ..? ?else? ?b?
  abbrev pub if_does : Level S → List ℕ → List (List ℕ) → Next S
  if_does inner first words = form_does inner first (branches Condition [] words)

  -- the turns of a loop; each tests the condition, which takes a step, so there are no more turns than steps
  abbrev pub turns : ℕ → Level S → Loop → Next S
  turns zero inner loop state variables fuel = Stopped OutOfSteps
  turns (suc more) inner loop state variables fuel =
      tested inner loop.condition (turn_does inner loop (turns more inner loop)) done state variables fuel

  -- a loop, with the steps that are left
  abbrev pub loop_does : Level S → Loop → Next S
  loop_does inner loop state variables fuel = turns fuel inner loop state variables fuel

  -- while c b
  abbrev pub while_does : Level S → List ℕ → List (List ℕ) → Next S
  while_does inner first (condition ∷ body ∷ []) state variables fuel =
      loop_does inner (record { condition = condition; next = None; body = body }) state variables fuel
  while_does inner first words state variables fuel = wrong_words first state variables fuel

  -- for s c n b
  abbrev pub for_does : Level S → List ℕ → List (List ℕ) → Next S
  for_does inner first (start ∷ condition ∷ next ∷ body ∷ []) state variables fuel =
      after (inner (script_of start) state variables fuel) (λ text. loop_does inner (record { condition = condition; next = Some next; body = body }))
  for_does inner first words state variables fuel = wrong_words first state variables fuel

  -- the code of a script is the result, and its text goes into the variable
  abbrev pub catch_ends : Option (List ℕ) → ℕ → List ℕ → Next S
  catch_ends None code text state variables fuel = End 0 (decimal code) state variables fuel
  catch_ends (Some name) code text state variables fuel =
      given limits (stores limits name variables text) state variables fuel (λ stored. End 0 (decimal code) state stored.1 fuel)

  -- catch s ?name?
  abbrev pub catch_does : Level S → List ℕ → List (List ℕ) → Next S
  catch_does inner first (script ∷ []) state variables fuel = caught (inner (script_of script) state variables fuel) (catch_ends None)
  catch_does inner first (script ∷ name ∷ []) state variables fuel = caught (inner (script_of script) state variables fuel) (catch_ends (Some name))
  catch_does inner first words state variables fuel = wrong_words first state variables fuel

  -- eval ..
  abbrev pub eval_does : Level S → List (List ℕ) → Next S
  eval_does inner words state variables fuel = given limits (within limits (concatenated words)) state variables fuel (λ text. inner (script_of text) state variables fuel)

  -- the turns of a `foreach`: each takes a step, sets the variable and runs the body
  abbrev pub each : Level S → List ℕ → List ℕ → List (List ℕ) → Next S
  each inner name body [] state variables fuel = End 0 [] state variables fuel
  each inner name body (item ∷ items) state variables fuel =
      after_step fuel (λ fuel. given limits (stores limits name variables item) state variables fuel (λ stored.
      after_body (inner (script_of body) state stored.1 fuel) (each inner name body items)))

  -- foreach name l b
  abbrev pub foreach_does : Level S → List ℕ → List (List ℕ) → Next S
  foreach_does inner first words state variables fuel =
      given limits (foreach_form first words) state variables fuel (λ x. each inner x.0 x.1 x.2 state variables fuel)

  -- ---- procedures

  -- a procedure, or the input's script, ends well by `return`, and not by `break` or `continue`
  abbrev pub settled : Outcome S → Outcome S
  settled (Stopped why) = Stopped why
  settled (End code text state variables fuel) =
      if code == 2 then End 0 text state variables fuel
      else (if code == 3 || code == 4 then fails limits (bare OutsideLoop) state variables fuel
      else End code text state variables fuel)

  -- a procedure's body, in a frame with its arguments
  abbrev pub procedure_does : Level S → List ℕ → List (List ℕ) → Option Procedure → Next S
  procedure_does inner first words procedure state variables fuel =
      given limits (entered limits first words variables procedure) state variables fuel (λ x.
      settled (without_frame (inner (script_of x.0) state x.1 fuel)))

module _ {S : Type 0} (host : Meaning S) where
  -- ---- plans

  -- what follows one of the scripts of an event (bind(n), "MULTIPLE MATCHES"; that an error ends them and joins the
  -- faults is this project's own rule)
  abbrev pub after_script : Outcome S → Next S → Outcome S
  after_script (Stopped why) next = Stopped why
  after_script (End code text state variables fuel) next =
      if code == 1 then End 0 [] (host.faulted state text) variables fuel
      else (if code == 3 then End 0 [] state variables fuel
      else next state variables fuel)

  -- the scripts of an event that are left, all chosen before the first ran: each is a step, and runs at global level; a
  -- window that is gone ends them
  abbrev pub scripts_do : Level S → ℕ → List (List ℕ) → Next S
  scripts_do inner window [] state variables fuel = End 0 [] state variables fuel
  scripts_do inner window (script ∷ scripts) state variables fuel =
      if host.alive state window then after_step fuel (λ fuel. after_script (at_global inner script state variables fuel) (scripts_do inner window scripts))
      else End 0 [] state variables fuel

  -- what comes of a plan, where `update` does this
  abbrev pub plan_with : (Due → Next S) → Level S → Plan → Next S
  plan_with update inner (plan.Answer code text) state variables fuel = End code text state variables fuel
  plan_with update inner (plan.Eval script) state variables fuel = global_does inner script state variables fuel
  plan_with update inner (plan.Dispatch window scripts) state variables fuel = scripts_do inner window scripts state variables fuel
  plan_with update inner (plan.Update due) state variables fuel = update due state variables fuel

  -- ---- things that wait

  -- no script sees how a thing ends that waited: an error joins the faults (this project's own rule)
  abbrev pub noted : Outcome S → Outcome S
  noted (Stopped why) = Stopped why
  noted (End code text state variables fuel) =
      if code == 0 then End 0 [] state variables fuel else End 0 [] (host.faulted state text) variables fuel

module _ {S : Type 0} (host : Meaning S) (limits : Limits) where
  -- what a thing does that waited, by its plan: it ends as a script at top level, and no script sees how
  abbrev pub thing_with : (Due → Next S) → Level S → Plan → Next S
  thing_with update inner p state variables fuel = noted host (settled limits (plan_with host update inner p state variables fuel))

  -- what waits is done, one thing after the other, up to so many: each is the next of what waits then, taken out, and takes a
  -- step before it runs (update(n))
  abbrev pub things_do : ℕ → Level S → Due → Next S
  things_do zero inner due state variables fuel =
      after_taken (host.next due state) state variables fuel (λ p state variables fuel. Stopped OutOfSteps)
  things_do (suc more) inner due state variables fuel =
      after_taken (host.next due state) state variables fuel (λ p state variables fuel. after_step fuel (λ fuel.
      caught (thing_with (things_do more inner) inner p state variables fuel) (λ code text. things_do more inner due)))

  -- update, update idletasks: each thing takes a step, so there are no more of them than steps
  abbrev pub update_does : Level S → Due → Next S
  update_does inner due state variables fuel = things_do fuel inner due state variables fuel

  -- what comes of a plan
  abbrev pub plan_does : Level S → Plan → Next S
  plan_does inner p state variables fuel = plan_with host (update_does inner) inner p state variables fuel

  -- what a thing does that waited: in a turn, and in an `update`
  abbrev pub thing_does : Level S → Plan → Next S
  thing_does inner p state variables fuel = thing_with (update_does inner) inner p state variables fuel

  -- ---- procedures

  -- proc name params body
  abbrev pub proc_does : List ℕ → List (List ℕ) → Next S
  proc_does first words state variables fuel =
      given limits (proc_form host limits first words state variables) state variables fuel (λ new. End 0 [] state new fuel)

  -- ---- any command

  -- a command that runs scripts
  abbrev pub control_does : Level S → Control → List ℕ → List (List ℕ) → Next S
  control_does inner control.Catch first words = catch_does limits inner first words
  control_does inner control.Eval first words = eval_does limits inner words
  control_does inner control.Expr first words = expr_does limits inner first words
  control_does inner control.For first words = for_does limits inner first words
  control_does inner control.Foreach first words = foreach_does limits inner first words
  control_does inner control.If first words = if_does limits inner first words
  control_does inner control.Proc first words = proc_does first words
  control_does inner control.While first words = while_does limits inner first words

  -- a command that the host has, or else a procedure
  abbrev pub host_does : Level S → List ℕ → List (List ℕ) → Answer S → Next S
  host_does inner first words (Comes p state' variables') state variables fuel = plan_does inner p state' variables' fuel
  host_does inner first words PassesLimit state variables fuel = Stopped TooLarge
  host_does inner first words Unknown state variables fuel =
      procedure_does limits inner first words (map.get variables.procedures first) state variables fuel

  -- a command that runs no script, or else another one
  abbrev pub plain_does : Level S → List ℕ → List (List ℕ) → Option commands.Answer → Next S
  plain_does inner first words (Some (commands.Answers code text variables')) state variables fuel = End code text state variables' fuel
  plain_does inner first words (Some commands.PassesLimit) state variables fuel = Stopped TooLarge
  plain_does inner first words None state variables fuel =
      host_does inner first words (host.commands state variables (first ∷ words)) state variables fuel

  -- a command, whose name is looked up: among those that run scripts, the other built-in ones, those of the
  -- host and the procedures
  abbrev pub command_does : Level S → Option Control → List ℕ → List (List ℕ) → Next S
  command_does inner (Some c) first words state variables fuel = control_does inner c first words state variables fuel
  command_does inner None first words state variables fuel =
      plain_does inner first words (plain limits (first ∷ words) variables) state variables fuel

  -- a command once its words are there: a step, and then what its name stands for; without words it does nothing
  abbrev pub call : Level S → List (List ℕ) → Next S
  call inner [] state variables fuel = End 0 [] state variables fuel
  call inner (first ∷ words) state variables fuel =
      after_step fuel (λ fuel. command_does inner (control_named first) first words state variables fuel)

  -- the words of a command, behind those that are made, and then the command
  abbrev pub words_do : Level S → Words → List (List ℕ) → Next S
  words_do inner no_word made state variables fuel = call inner made state variables fuel
  words_do inner (word expand parts rest) made state variables fuel =
      after (parts_do limits inner parts [] state variables fuel) (λ text state variables fuel.
      given limits (words_in expand text) state variables fuel (λ more. words_do inner rest (made ++ more) state variables fuel))

  -- the commands of a script, one after the other while their codes are 0; last is the text of the one before
  abbrev pub commands_do : Level S → Script → List ℕ → Next S
  commands_do inner no_command last state variables fuel = End 0 last state variables fuel
  commands_do inner (faulty fault) last state variables fuel = fails limits fault state variables fuel
  commands_do inner (command words rest) last state variables fuel =
      after (words_do inner words [] state variables fuel) (λ text state variables fuel. commands_do inner rest text state variables fuel)

  -- a script, where so many may be opened in one another
  abbrev pub evaluate : ℕ → Script → Next S
  evaluate zero script state variables fuel = Stopped TooDeep
  evaluate (suc depth) script state variables fuel = commands_do (evaluate depth) script [] state variables fuel
