-- What expressions come to behind one of their items, and calls behind what they call.
use Rattle.std.proofs.Common.{◌≡◌, ◌≤◌, ◌<◌, ◌-◌, ℕ, zero, suc, Bool, true, cond, List, [], ◌∷◌, length, drop, reverse, Option, Some, None, Result, Ok, Err, refl, sym, subst, ap, ◌∙◌, arith}
use Rattle.std.proofs.Math.ListN.{get_or}
use Rattle.tks_text.specs.declared.limits.Limits.{Limits}
use Rattle.tks_parse.specs.Tree.{Script, Parts}
use Rattle.tks_parse.specs.Reading.{script_of}
use Rattle.tks_vars.specs.Variables.{Variables, pushed_global}
use Rattle.tks_vars.specs.declared.procedure.Procedure.{Procedure}
use Rattle.tks_expr.specs.Compiled.{items_do, items_in}
use Rattle.tks_expr.specs.declared.items.Item.{Item}
use Rattle.tks_expr.specs.declared.items.Leaf.{Leaf}
use Rattle.tks_expr.specs.declared.operator.Binary.{Binary}
use Rattle.tks_expr.specs.declared.items.Item.TheVariants as item
use Rattle.tks_tcl.specs.Cause.{value_or_fault}
use Rattle.tks_tcl.specs.Cause as tcl
use Rattle.tks_tcl.specs.Meets as meets
use Rattle.tks_tcl.specs.Plain.{plain}
use Rattle.tks_tcl.specs.declared.interrupt.Interrupt.{Interrupt}
use Rattle.tks_tcl.specs.declared.stop.Stop.{Stop}
use Rattle.tks_tcl.specs.declared.stop.Stop.TheVariants as stop
use Rattle.tks_eval.specs.Outcome.{Outcome, End, Next, Level, Taken, Nothing, Takes, TooMuch, Comes, Meaning, after_step, after, after_taken, caught, fails, given}
use Rattle.tks_eval.specs.Meets.{TakesSo, StopsSo, halt_of_interrupt}
use Rattle.tks_eval.specs.Evaluation.{text_done, and_then, made_text, expression_does, without_frame, after_script, scripts_do, settled, procedure_does, update_does, plan_does, thing_does, control_does, host_does, plain_does, command_does, call, evaluate}
use Rattle.tks_eval.specs.Names.{Control, control_named}
use Rattle.tks_eval.specs.Procedures.{entered, script_in}
use Rattle.tks_eval.specs.Counting.{two_leaves, item_done, items_go}
use Rattle.tks_eval.specs.Machine.{level_of, done_by, items_weight, ComesSo, ValuedSo}
use Rattle.tks_eval.specs.declared.expressions.Valued.{Valued}
use Rattle.tks_eval.specs.declared.frame.Frame.TheVariants as frame
use Rattle.tks_eval.specs.declared.halt.Halt.{Halt}
use Rattle.tks_eval.specs.declared.halt.Halt.TheVariants as halt
use Rattle.tks_eval.specs.declared.host.Due.{Due}
use Rattle.tks_eval.specs.declared.host.Plan.{Plan}
use Rattle.tks_eval.specs.declared.machine.Machine.{Machine}
use Rattle.tks_eval.proofs.After.{given_after}
use Rattle.tks_eval.proofs.Coming.{comes_from, given_halts}
use Rattle.tks_eval.proofs.Counting.{leaves_go, item_then, passed_over, expression_counts, weighs_more}
use Rattle.tks_eval.proofs.Spending.{evaluate_spends}
use Rattle.tks_eval.proofs.Updates.{update_unrolls}

-- two words
pub two_are : {X : Type 0} (words : List X) (x y : X) → 2 ≤ length words → length words < 3 → get_or words 0 x ≡ x → get_or words 1 y ≡ y → words ≡ x ∷ y ∷ []
two_are [] x y h k first second = absurd (omega (arith, h))
two_are (a ∷ []) x y h k first second = absurd (omega (arith, h))
two_are (a ∷ b ∷ []) x y h k first second = ap (λ z. z ∷ b ∷ []) first ∙ ap (λ z. x ∷ z ∷ []) second
two_are (a ∷ b ∷ d ∷ more) x y h k first second = absurd (omega (arith, k))

-- what is left behind some items weighs no more
pub weighs_behind : (n : ℕ) (items : List Item) → items_weight (drop n items) ≤ items_weight items
weighs_behind zero items = omega arith
weighs_behind (suc n) [] = omega arith
weighs_behind (suc n) (i ∷ items) = omega (arith, weighs_more i items, weighs_behind n items)

-- the frame of an expression that waits keeps the items that are left, and the values
pub counting_is : (shared all more : List Item) (below values : List (List ℕ)) → shared ≡ all → more ≡ drop (length all - length more) all → reverse below ≡ values
    → frame.Value (drop (length shared - length more) shared, reverse below) ≡ frame.Value (more, values)
counting_is shared all more below values same left is =
    ap (λ items. frame.Value (drop (length items - length more) items, reverse below)) same
    ∙ ap (λ items. frame.Value (items, reverse below)) (sym left)
    ∙ ap (λ stack. frame.Value (more, stack)) is

-- where there is nothing to go on with, an expression comes to what anything else comes to
pub halts_valued : {S : Type 0} (host : Meaning S) (below : ℕ) (m : Machine) (state : S) (asked : Bool) (whole : Outcome S) (why : Halt)
    → ComesSo host asked below whole (Err why) m state → ValuedSo host below whole (Err why) m state
halts_valued host below m state asked whole (halt.Fault fault) h = h
halts_valued host below m state asked whole (halt.Stop why) h = h

-- what comes to the same
pub valued_from : {S : Type 0} (host : Meaning S) (below : ℕ) (m : Machine) (state : S) (whole same : Outcome S) (result : Result Valued Halt) → whole ≡ same
    → ValuedSo host below same result m state → ValuedSo host below whole result m state
valued_from host below m state whole same result is h = subst (λ o. ValuedSo host below o result m state) (sym is) h

-- an item whose text is made, and those behind it
pub operand_goes : {S : Type 0} (limits : Limits) (inner : Level S) (m new : Machine) (state state' : S) (parts : Parts) (rest : List Item) (stack : List (List ℕ)) (code : ℕ) (text : List ℕ)
    → code ≡ 0 → done_by (made_text limits inner parts) state m ≡ End code text state' new.variables new.fuel
    → done_by (items_go limits inner (item.Make parts ∷ rest) stack) state m ≡ done_by (items_go limits inner rest (text ∷ stack)) state' new
operand_goes limits inner m new state state' parts rest stack code text well h =
    ap (λ o. after o (λ text. items_go limits inner rest (text ∷ stack))) (h ∙ ap (λ k. End k text state' new.variables new.fuel) well)

-- an item that makes no text, and those behind it
module _ {S : Type 0} (host : Meaning S) (limits : Limits) (inner : Level S) (m : Machine) (state : S) (within : m.limits ≡ limits)
    (i : Item) (rest : List Item) (stack : List (List ℕ)) (other : (parts : Parts) → i ≡ item.Make parts → ⊥) where
  -- it is done
  pub item_goes : (count : ℕ) (next : List (List ℕ)) → item_done m.limits m.variables i stack ≡ Ok (count, next)
      → done_by (items_go limits inner (i ∷ rest) stack) state m ≡ done_by (items_go limits inner (drop count rest) next) state m
  item_goes count next h =
      item_then limits state m.variables m.fuel inner i stack rest other
      ∙ ap (λ r. given limits r state m.variables m.fuel (λ z. items_do text_done (fails limits) and_then (made_text limits inner) z.0 rest z.1 state m.variables m.fuel))
      (subst (λ l. item_done l m.variables i stack ≡ Ok (count, next)) within h)
      ∙ passed_over limits state m.variables m.fuel inner count rest next

  -- it can't be
  pub item_halts : (below : ℕ) (why : Interrupt) → m.left ≡ below → meets.FailsSo why (item_done m.limits m.variables i stack)
      → ValuedSo host below (done_by (items_go limits inner (i ∷ rest) stack) state m) (Err (halt_of_interrupt why)) m state
  item_halts below why here h =
      halts_valued host below m state true _ (halt_of_interrupt why)
      (comes_from host limits below m state within true _ _ (Err (halt_of_interrupt why)) (item_then limits state m.variables m.fuel inner i stack rest other)
      (given_halts host limits below m state within here true (item_done limits m.variables i stack)
      (λ z. items_do text_done (fails limits) and_then (made_text limits inner) z.0 rest z.1 state m.variables m.fuel) why
      (subst (λ l. meets.FailsSo why (item_done l m.variables i stack)) within h)))

-- an operator between two leaves that is all of an expression
module _ {S : Type 0} (host : Meaning S) (inner : Level S) (m : Machine) (state : S) (op : Binary) (a b : Leaf) where
  -- it is done
  pub leaves_done : (text : List ℕ) → two_leaves m.limits m.variables op a b ≡ Ok text
      → done_by (items_go m.limits inner (item.Two op a b ∷ []) []) state m ≡ End 0 text state m.variables m.fuel
  leaves_done text h =
      leaves_go m.limits state m.variables m.fuel inner op a b
      ∙ ap (λ r. given m.limits r state m.variables m.fuel (λ z. End 0 z state m.variables m.fuel)) h

  -- it can't be
  pub leaves_halt : (why : Interrupt) → meets.FailsSo why (two_leaves m.limits m.variables op a b)
      → ValuedSo host m.left (done_by (items_go m.limits inner (item.Two op a b ∷ []) []) state m) (Err (halt_of_interrupt why)) m state
  leaves_halt why h =
      halts_valued host m.left m state true _ (halt_of_interrupt why)
      (comes_from host m.limits m.left m state refl true _ _ (Err (halt_of_interrupt why)) (leaves_go m.limits state m.variables m.fuel inner op a b)
      (given_halts host m.limits m.left m state refl refl true (two_leaves m.limits m.variables op a b) (λ z. End 0 z state m.variables m.fuel) why h))

-- what a text spells, once it is read
pub expression_goes : {S : Type 0} (limits : Limits) (inner : Level S) (state : S) (variables : Variables) (fuel : ℕ) (text : List ℕ) (items : List Item) → items_in text ≡ Ok items
    → expression_does limits inner text state variables fuel ≡ items_go limits inner items [] state variables fuel
expression_goes limits inner state variables fuel text items read =
    expression_counts limits state variables fuel inner text
    ∙ ap (λ r. given limits (value_or_fault r) state variables fuel (λ items. items_go limits inner items [] state variables fuel)) read

-- a procedure's body, in its frame
module _ {S : Type 0} (limits : Limits) (inner : Level S) (first : List ℕ) (words : List (List ℕ)) (procedure : Option Procedure) (state : S) (variables : Variables) (fuel : ℕ) where
  -- what follows on a call that is entered
  abbrev pub entered_then : Script × Variables → Outcome S
  entered_then x = settled limits (without_frame (inner x.0 state x.1 fuel))

  -- it is entered, or it can't be
  pub procedure_then : procedure_does limits inner first words procedure state variables fuel
      ≡ given limits (tcl.after (entered limits first words variables procedure) (λ x. Ok (script_in x))) state variables fuel entered_then
  procedure_then = sym (given_after limits state variables fuel (entered limits first words variables procedure) (λ x. Ok (script_in x)) entered_then)

  -- it is entered
  pub procedure_goes : (script : Script) (new : Variables) → tcl.after (entered limits first words variables procedure) (λ x. Ok (script_in x)) ≡ Ok (script, new)
      → procedure_does limits inner first words procedure state variables fuel ≡ settled limits (without_frame (inner script state new fuel))
  procedure_goes script new h = procedure_then ∙ ap (λ r. given limits r state variables fuel entered_then) h

-- an `update`, by the next of what waits
module _ {S : Type 0} (host : Meaning S) (limits : Limits) (left : ℕ) (due : Due) where
  -- an `update` anywhere
  abbrev pub update_at : Next S
  update_at = update_does host limits (evaluate host limits left) due

  -- a thing behind its step, and then an `update` again
  abbrev thing_then : Plan → Next S
  thing_then p state variables fuel = after_step fuel (λ fuel. caught (thing_does host limits (evaluate host limits left) p state variables fuel) (λ code text. update_at))

  module _ (state : S) (variables : Variables) (fuel : ℕ) where
    -- what follows on what is taken out
    taken_then : (taken : Taken S) → host.next due state ≡ taken → update_at state variables fuel ≡ after_taken taken state variables fuel thing_then
    taken_then taken is =
        update_unrolls host limits (evaluate host limits left) (evaluate_spends host limits left) due state variables fuel
        ∙ ap (λ t. after_taken t state variables fuel thing_then) is

    -- nothing waits
    pub nothing_goes : (new : S) → TakesSo (host.next due state) (Ok None) state new → update_at state variables fuel ≡ End 0 [] new variables fuel
    nothing_goes new h = taken_then Nothing h.0 ∙ ap (λ s. End 0 [] s variables fuel) (sym h.1)

    -- the host stops
    pub taking_stops : (new : S) (why : Stop) → TakesSo (host.next due state) (Err why) state new → StopsSo (update_at state variables fuel) why
    taking_stops new stop.TooLarge h = taken_then TooMuch h
    taking_stops new stop.NoMemory h = tt
    taking_stops new stop.Budget h = absurd h
    taking_stops new stop.Depth h = absurd h

    -- a thing waits, and a step is there for it
    pub thing_goes : (p : Plan) (new : S) (m : Machine) → host.next due state ≡ Takes p new → fuel ≡ suc m.fuel → m.limits ≡ limits → m.left ≡ left → m.variables ≡ variables
        → update_at state variables fuel ≡ caught (done_by (thing_does host m.limits (level_of host m) p) new m) (λ code text. update_at)
    thing_goes p new m is step within here kept =
        taken_then (Takes p new) is
        ∙ ap (λ u. thing_then p new variables u) step
        ∙ ap (λ v. caught (thing_does host limits (evaluate host limits left) p new v m.fuel) (λ code text. update_at)) (sym kept)
        ∙ ap (λ k. caught (thing_does host limits (evaluate host limits k) p new m.variables m.fuel) (λ code text. update_at)) (sym here)
        ∙ ap (λ l. caught (thing_does host l (evaluate host l m.left) p new m.variables m.fuel) (λ code text. update_at)) (sym within)

-- a command behind its step
module _ {S : Type 0} (host : Meaning S) (old m : Machine) (state : S) (first : List ℕ) (words : List (List ℕ)) (step : old.fuel ≡ suc m.fuel) (kept : m ≡ record old { fuel = m.fuel }) where
  -- what follows on a step
  call_goes : done_by (call host old.limits (level_of host old) (first ∷ words)) state old
      ≡ done_by (command_does host m.limits (level_of host m) (control_named first) first words) state m
  call_goes =
      ap (λ u. after_step u (λ fuel. command_does host old.limits (level_of host old) (control_named first) first words state old.variables fuel)) step
      ∙ sym (ap (λ n. done_by (command_does host n.limits (level_of host n) (control_named first) first words) state n) kept)

  -- it runs scripts
  pub control_goes : (k : Control) → control_named first ≡ Some k
      → done_by (call host old.limits (level_of host old) (first ∷ words)) state old ≡ done_by (control_does host m.limits (level_of host m) k first words) state m
  control_goes k named = call_goes ∙ ap (λ c. done_by (command_does host m.limits (level_of host m) c first words) state m) named

  -- the host has it
  pub plan_goes : (p : Plan) (new : S) (variables : Variables) → control_named first ≡ None → plain m.limits (first ∷ words) m.variables ≡ None
      → host.commands state m.variables (first ∷ words) ≡ Comes p new variables
      → done_by (call host old.limits (level_of host old) (first ∷ words)) state old ≡ plan_does host m.limits (level_of host m) p new variables m.fuel
  plan_goes p new variables named other answer =
      call_goes
      ∙ ap (λ c. done_by (command_does host m.limits (level_of host m) c first words) state m) named
      ∙ ap (λ a. plain_does host m.limits (level_of host m) first words a state m.variables m.fuel) other
      ∙ ap (λ a. host_does host m.limits (level_of host m) first words a state m.variables m.fuel) answer

-- a script of an event, where a step is there for it
pub script_goes : {S : Type 0} (host : Meaning S) (limits : Limits) (left window : ℕ) (state : S) (variables pushed : Variables) (fuel : ℕ) (text : List ℕ) (scripts : List (List ℕ)) (script : Script) (m : Machine)
    → host.alive state window ≡ true → fuel ≡ suc m.fuel → m.limits ≡ limits → m.left ≡ left → pushed ≡ pushed_global variables → script ≡ script_of text
    → scripts_do host (evaluate host limits left) window (text ∷ scripts) state variables fuel
    ≡ after_script host (without_frame (evaluate host m.limits m.left script state pushed m.fuel)) (scripts_do host (evaluate host limits left) window scripts)
script_goes host limits left window state variables pushed fuel text scripts script m alive step within here push read =
    let behind : Outcome _ → Outcome _ = λ o. after_script host (without_frame o) (scripts_do host (evaluate host limits left) window scripts) in
    let here_does : ℕ → Outcome _ = λ fuel. behind (evaluate host limits left (script_of text) state (pushed_global variables) fuel) in
    ap (λ b. cond b (after_step fuel here_does) (End 0 [] state variables fuel)) alive
    ∙ ap (λ u. after_step u here_does) step
    ∙ ap (λ s. behind (evaluate host limits left s state (pushed_global variables) m.fuel)) (sym read)
    ∙ ap (λ v. behind (evaluate host limits left script state v m.fuel)) (sym push)
    ∙ ap (λ k. behind (evaluate host limits k script state pushed m.fuel)) (sym here)
    ∙ ap (λ l. behind (evaluate host l m.left script state pushed m.fuel)) (sym within)
