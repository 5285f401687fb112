use Rattle.std.proofs.Common.{◌≡◌, ◌≤◌, ◌∷◌, ◌++◌, [], length, drop, true, Ok, Err, rules, ap, sym, ◌∙◌, arith, None, Some, subst, ◌*◌, ◌+◌, false, ◌==◌, refl, ◌<◌, inr, ◌-◌, suc, cond, option_copied}
use Rattle.std.proofs.Math.ListN.{get_or}
use Rattle.std.proofs.lemmas.List.{length-drop}
use Rattle.std.specs.List.{list_all}
use Rattle.std.specs.Prelude.{option_map}
use Rattle.tks_expr.specs.Operation.{result_of}
use Rattle.tks_parse.specs.Reading.{script_of}
use Rattle.tks_parse.specs.Tree.{parts_size, words_size, no_command, script_size, command}
use Rattle.tks_parse.specs.View.{parts_of, words_of, words_of_command, first_words, behind}
use Rattle.tks_parse.specs.declared.tree.Part.TheVariants.{Variable}
use Rattle.tks_tcl.specs.Cause.{value_or_fault}
use Rattle.tks_tcl.specs.Plain.{plain}
use Rattle.tks_text.specs.Limits.{fits}
use Rattle.tks_vars.specs.Variables.{pushed_global}
use Rattle.tks_eval.proofs.After.{after_other, given_after, after_done}
use Rattle.tks_eval.proofs.Calling.{weighs_behind, counting_is, halts_valued, valued_from, operand_goes, item_goes, item_halts, control_goes, plan_goes, script_goes, update_at, nothing_goes, taking_stops, thing_goes, two_are, expression_goes, entered_then, procedure_then, procedure_goes, leaves_done, leaves_halt}
use Rattle.tks_eval.proofs.Coming.{waits_before, weighs_before, comes_at, after_halts, comes_as, comes_from, given_halts, passes, ends_as, valued_halts, fault_halts}
use Rattle.tks_eval.proofs.Counting.{left_next, left_behind, weighs_more}
use Rattle.tks_eval.proofs.Filling.{ready_do}
use Rattle.tks_eval.proofs.Lent.{words_answer}
use Rattle.tks_eval.proofs.Looping.{loop_begins, value_halts, truth_halts, value_holds, value_ends, value_waits, body_begins, next_begins, none_begins, script_stops, script_ends, script_waits, body_again, branches_begin, goes_on, each_begins, four_of, comes_then, start_begins, ComesTo, itself}
use Rattle.tks_eval.proofs.Making.{index_next, nested_next, text_then, value_then, index_then, nested_then, parts_made, index_smaller, nested_smaller, text_weighs, word_next, word_then, lent_then, words_then, word_smaller}
use Rattle.tks_eval.proofs.Scripts.{behind_smaller, goes_first, script_goes_on, told_runs, told_falls, script_opens, lone_opens}
use Rattle.tks_eval.proofs.machine.Machine.+run.Goals.{run_catch-in-len1, run_catch-in-len2+in_ok-try_clone-in-len2, run_test-then-branch, run_test-else-branch}
use Rattle.tks_eval.specs.Branches.{Test, Branches}
use Rattle.tks_eval.specs.Counting.{item_done, items_go}
use Rattle.tks_eval.specs.Evaluation.{made_text, evaluate, control_does, plan_does, call, element_name, with_value, parts_do, behind_body, loop_does, words_in, words_do, scripts_do, thing_does, catch_does, catch_ends, commands_do, result_told, Loop, settled, without_frame, script_does, branches_do}
use Rattle.tks_eval.specs.Machine.{level_of, done_by, items_weight, control_of, ComesSo, FallsTo, AnswersWords, EndsAs, RunsSo}
use Rattle.tks_eval.specs.Meets.{halt_of_interrupt, StopsSo, halt_of_failure}
use Rattle.tks_eval.specs.Names.{control_named}
use Rattle.tks_eval.specs.Outcome.{Comes, End, after, appended, given, after_body, after_next, Takes, caught, Stopped, TooLarge}
use Rattle.tks_eval.specs.declared.halt.Halt.{Halt}
use Rattle.std.specs.FinMap as map
use Rattle.tks_eval.specs.declared.frame.Came.TheVariants as came
use Rattle.tks_eval.specs.declared.frame.Frame.TheVariants as frame
use Rattle.tks_eval.specs.declared.halt.Halt.TheVariants as halt
use Rattle.tks_eval.specs.declared.loops.Stage.TheVariants as stages
use Rattle.tks_expr.specs.declared.items.Item.TheVariants as item
use Rattle.tks_tcl.specs.Cause as tcl
use Rattle.tks_eval.proofs.machine.Machine.+run.Goals as goal

pub count-returns-in_err-count : goal.count-returns-in_err-count
count-returns-in_err-count g t c =
    let host = g.H.Host.meaning in
    let old = c.args.self.now in
    let m = c.item.self in
    let state = g.H.Host.state c.item.host in
    let rest = c.item.rest.now in
    let i = c.in-Some.item.now in
    let more = c.in-Some.more.now in
    let values = c.item.values in
    let why = c.in_err-count.field-0.0 in
    let here : rest ≡ i ∷ more = search rules in
    let fails = item_halts host old.limits (level_of host old) m state c.item.invariant.limits i more values (λ parts is. c.in_default-item.not-Make parts is) old.left why c.item.invariant.left c.in_err-count.ensures in
    let goes = c.item.invariant.goes ∙ ap (λ items. done_by (items_go old.limits (level_of host old) items values) state m) here in
    let told : c.from_residual.result ≡ Err (halt_of_interrupt why) = search rules in
    rw told (record {
      same_place = c.item.invariant.place;
      same_limits = c.item.invariant.limits;
      falls = c.item.invariant.spends;
      comes = valued_from host old.left m state _ _ (Err (halt_of_interrupt why)) goes fails;
    })

pub count-item-preserved-in_default-item : goal.count-item-preserved-in_default-item
count-item-preserved-in_default-item g t c =
    let host = g.H.Host.meaning in
    let old = c.args.self.now in
    let m = c.item.self in
    let state = g.H.Host.state c.item.host in
    let all = c.args.items.now in
    let rest = c.item.rest.now in
    let i = c.in-Some.item.now in
    let more = c.in-Some.more.now in
    let values = c.item.values in
    let count = c.in_ok-count.count in
    let stack = c.do_item.new.self in
    let here : rest ≡ i ∷ more = search rules in
    let within = c.item.invariant.within in
    let left = left_next all rest more i here c.item.invariant.rest within in
    let behind : c.behind-rest-in_default-item.result.now ≡ drop count more = c.behind-rest-in_default-item.ensures in
    let done : item_done m.limits m.variables i values ≡ Ok (count, stack) = c.in_ok-count.ensures in
    let goes = item_goes host old.limits (level_of host old) m state c.item.invariant.limits i more values (λ parts is. c.in_default-item.not-Make parts is) count stack done in
    let lighter : items_weight (drop count more) ≤ items_weight rest = omega (arith, weighs_behind count more, weighs_more i more, ap items_weight here) in
    rw behind (record {
      place = c.item.invariant.place;
      limits = c.item.invariant.limits;
      left = c.item.invariant.left;
      spends = c.item.invariant.spends;
      size = omega (arith, lighter, c.item.invariant.size);
      rest = left_behind count all more left (omega (arith, within, ap length here));
      within = omega (arith, within, ap length here, length-drop count more);
      goes = c.item.invariant.goes ∙ ap (λ items. done_by (items_go old.limits (level_of host old) items values) state m) here ∙ goes;
    })

pub count-returns-in_err-end-clause-comes : goal.count-returns-in_err-end-clause-comes
count-returns-in_err-end-clause-comes g t c =
    let host = g.H.Host.meaning in
    let old = c.args.self.now in
    let new = c.make_parts.new.self in
    let state = g.H.Host.state c.item.host in
    let values = c.item.values in
    let more = c.in-Some.more.now in
    let parts = c.in-Make.parts in
    let why = c.in_err-end.field-0.0 in
    let here : c.item.rest.now ≡ item.Make parts ∷ more = search rules in
    let goes = c.item.invariant.goes ∙ ap (λ items. done_by (items_go old.limits (level_of host old) items values) state c.item.self) here in
    let comes = comes_at host new (g.H.Host.state c.make_parts.new.host) true c.item.self.limits old.limits c.item.self.left old.left
    (λ limits left. done_by (made_text limits (evaluate host limits left) parts) state c.item.self) (Err why) c.item.invariant.limits c.item.invariant.left c.in_err-end.ensures.comes in
    let halts = after_halts host old.limits old.left new (g.H.Host.state c.make_parts.new.host) (c.in_err-end.ensures.same_limits ∙ c.item.invariant.limits) true true _
    (λ text. items_go old.limits (level_of host old) more (text ∷ values)) why comes in
    let all = valued_from host old.left new (g.H.Host.state c.make_parts.new.host) _ _ (Err why) goes (halts_valued host old.left new (g.H.Host.state c.make_parts.new.host) true _ why halts) in
    search rules

pub count-item-preserved : goal.count-item-preserved
count-item-preserved g t c =
    let host = g.H.Host.meaning in
    let old = c.args.self.now in
    let new = c.make_parts.new.self in
    let state = g.H.Host.state c.item.host in
    let all = c.args.items.now in
    let rest = c.item.rest.now in
    let more = c.in-Some.more.now in
    let values = c.item.values in
    let parts = c.in-Make.parts in
    let end = c.in-Ended.end in
    let here : rest ≡ item.Make parts ∷ more = search rules in
    let within = c.item.invariant.within in
    let put : c.push.new.self ≡ end.text ∷ values = search rules in
    let well : end.code ≡ 0 = c.if-end-ne0.false in
    let comes = rw (c.in-Ended.is, c.item.invariant.limits, c.item.invariant.left) at c.in_ok-end.ensures.comes in
    let spends = rw c.in-Ended.is at c.in_ok-end.ensures.falls in
    rw put (record {
      place = c.in_ok-end.ensures.same_place ∙ c.item.invariant.place;
      limits = c.in_ok-end.ensures.same_limits ∙ c.item.invariant.limits;
      left = comes.1;
      spends = omega (arith, spends, c.item.invariant.spends);
      size = omega (arith, weighs_more (item.Make parts) more, ap items_weight here, c.item.invariant.size);
      rest = left_next all rest more (item.Make parts) here c.item.invariant.rest within;
      within = omega (arith, within, ap length here);
      goes = c.item.invariant.goes ∙ ap (λ items. done_by (items_go old.limits (level_of host old) items values) state c.item.self) here
          ∙ operand_goes old.limits (level_of host old) c.item.self new state (g.H.Host.state c.make_parts.new.host) parts more values end.code end.text well comes.0;
    })

pub count-returns-in-Waits-clause-falls : goal.count-returns-in-Waits-clause-falls
count-returns-in-Waits-clause-falls g t c =
    let all = c.args.items.now in
    let rest = c.item.rest.now in
    let more = c.in-Some.more.now in
    let parts = c.in-Make.parts in
    let here : rest ≡ item.Make parts ∷ more = search rules in
    let left = left_next all rest more (item.Make parts) here c.item.invariant.rest c.item.invariant.within in
    let w = c.in-Waits.waiting.value in
    let before = c.in_ok-before-in-Waits.field-0.value in
    let counting = counting_is c.in_ok-share-in-Waits.field-0 all more c.in_ok-into_below-in-Waits.field-0.items c.item.values c.in_ok-share-in-Waits.ensures left c.in_ok-into_below-in-Waits.ensures in
    let told : before.frames.items ≡ w.frames.items ++ frame.Value (more, c.item.values) ∷ [] = c.in_ok-before-in-Waits.ensures.1 ∙ ap (λ f. w.frames.items ++ f ∷ []) counting in
    let weighs = weighs_before before.opens w.opens w.frames.items before.frames.items (frame.Value (more, c.item.values)) c.in_ok-before-in-Waits.ensures.0 told in
    let falls = rw c.in-Waits.is at c.in_ok-end.ensures.falls in
    (omega (arith, falls.0, c.item.invariant.spends), λ same. omega (arith, weighs, falls.1 (omega (arith, falls.0, c.item.invariant.spends, same)), ap items_weight here, c.item.invariant.size))

pub count-returns-in-Waits-clause-comes : goal.count-returns-in-Waits-clause-comes
count-returns-in-Waits-clause-comes g t c =
    let host = g.H.Host.meaning in
    let old = c.args.self.now in
    let new = c.make_parts.new.self in
    let state = g.H.Host.state c.item.host in
    let all = c.args.items.now in
    let rest = c.item.rest.now in
    let more = c.in-Some.more.now in
    let values = c.item.values in
    let parts = c.in-Make.parts in
    let here : rest ≡ item.Make parts ∷ more = search rules in
    let goes = c.item.invariant.goes ∙ ap (λ items. done_by (items_go old.limits (level_of host old) items values) state c.item.self) here in
    let left = left_next all rest more (item.Make parts) here c.item.invariant.rest c.item.invariant.within in
    let comes = rw (c.in-Waits.is, c.item.invariant.limits, c.item.invariant.left) at c.in_ok-end.ensures.comes in
    let w = c.in-Waits.waiting.value in
    let before = c.in_ok-before-in-Waits.field-0.value in
    let counting = counting_is c.in_ok-share-in-Waits.field-0 all more c.in_ok-into_below-in-Waits.field-0.items values c.in_ok-share-in-Waits.ensures left c.in_ok-into_below-in-Waits.ensures in
    let told : before.frames.items ≡ w.frames.items ++ frame.Value (more, values) ∷ [] = c.in_ok-before-in-Waits.ensures.1 ∙ ap (λ f. w.frames.items ++ f ∷ []) counting in
    let waits = waits_before host old.limits old.left new (g.H.Host.state c.make_parts.new.host) (c.in_ok-end.ensures.same_limits ∙ c.item.invariant.limits) (done_by (made_text old.limits (level_of host old) parts) state c.item.self)
    before.opens w.opens w.frames.items before.frames.items (frame.Value (more, values)) c.in_ok-before-in-Waits.ensures.0 told comes in
    (goes ∙ waits.0, waits.1)

pub do_command-returns-in-Some-named-clause-comes : goal.do_command-returns-in-Some-named-clause-comes
do_command-returns-in-Some-named-clause-comes g t c =
    let host = g.H.Host.meaning in
    let old = c.args.self.now in
    let m = c.take_step.new.self in
    let state = g.H.Host.state c.args.host.now in
    let first = c.in-Some.command.now in
    let rest = c.in-Some.rest.now in
    let new = c.run_control.new.self in
    let state' = g.H.Host.state c.run_control.new.host in
    let kept = c.in_ok-take_step.ensures.kept in
    let words : c.args.words.now ≡ first ∷ rest = search rules in
    let named : control_named first ≡ Some (control_of c.in-Some-named.control) = sym c.in-Some-named.ensures in
    let goes = ap (λ ws. done_by (call host old.limits (level_of host old) ws) state old) words
    ∙ control_goes host old m state first rest c.in_ok-take_step.ensures.step kept (control_of c.in-Some-named.control) named in
    let does = done_by (control_does host m.limits (level_of host m) (control_of c.in-Some-named.control) first rest) state m in
    let comes = subst (λ k. ComesSo host c.args.asked k does c.run_control.result new state') (ap (λ n. n.left) kept) c.run_control.ensures.comes in
    subst (λ o. ComesSo host c.args.asked old.left o c.run_control.result new state') (sym goes) comes

pub do_command-returns-in_err-run_plan-in-Some-2-clause-comes : goal.do_command-returns-in_err-run_plan-in-Some-2-clause-comes
do_command-returns-in_err-run_plan-in-Some-2-clause-comes g t c =
    let host = g.H.Host.meaning in
    let old = c.args.self.now in
    let m = c.take_step.new.self in
    let state = g.H.Host.state c.args.host.now in
    let first = c.in-Some.command.now in
    let rest = c.in-Some.rest.now in
    let why = c.in_err-run_plan-in-Some-2.field-0.0 in
    let kept = c.in_ok-take_step.ensures.kept in
    let words : c.args.words.now ≡ first ∷ rest = search rules in
    let named : control_named first ≡ None = search rules in
    let other : plain m.limits (first ∷ rest) m.variables ≡ None = search rules in
    let answer : host.commands state m.variables (first ∷ rest) ≡ Comes c.in-Some-2.plan (g.H.Host.state c.call.new.self) c.call.new.variables = search rules in
    let goes = ap (λ ws. done_by (call host old.limits (level_of host old) ws) state old) words
    ∙ plan_goes host old m state first rest c.in_ok-take_step.ensures.step kept c.in-Some-2.plan (g.H.Host.state c.call.new.self) c.call.new.variables named other answer in
    let all = subst (λ o. StopsSo o why) (sym goes) c.in_err-run_plan-in-Some-2.ensures.comes in
    search rules

pub do_command-returns-in_ok-run_plan-in-Some-2-clause-comes : goal.do_command-returns-in_ok-run_plan-in-Some-2-clause-comes
do_command-returns-in_ok-run_plan-in-Some-2-clause-comes g t c =
    let host = g.H.Host.meaning in
    let old = c.args.self.now in
    let m = c.take_step.new.self in
    let state = g.H.Host.state c.args.host.now in
    let first = c.in-Some.command.now in
    let rest = c.in-Some.rest.now in
    let new = c.run_plan.new.self in
    let state' = g.H.Host.state c.run_plan.new.host in
    let came = c.in_ok-run_plan-in-Some-2.field-0 in
    let kept = c.in_ok-take_step.ensures.kept in
    let words : c.args.words.now ≡ first ∷ rest = search rules in
    let named : control_named first ≡ None = search rules in
    let other : plain m.limits (first ∷ rest) m.variables ≡ None = search rules in
    let answer : host.commands state m.variables (first ∷ rest) ≡ Comes c.in-Some-2.plan (g.H.Host.state c.call.new.self) c.call.new.variables = search rules in
    let goes = ap (λ ws. done_by (call host old.limits (level_of host old) ws) state old) words
    ∙ plan_goes host old m state first rest c.in_ok-take_step.ensures.step kept c.in-Some-2.plan (g.H.Host.state c.call.new.self) c.call.new.variables named other answer in
    let does = plan_does host m.limits (level_of host m) c.in-Some-2.plan (g.H.Host.state c.call.new.self) c.call.new.variables m.fuel in
    let comes = subst (λ k. ComesSo host true k does (Ok came) new state') (ap (λ n. n.left) kept) c.in_ok-run_plan-in-Some-2.ensures.comes in
    comes_as host old.left new state' c.args.asked (done_by (call host old.limits (level_of host old) c.args.words.now) state old) (Ok came) (subst (λ o. ComesSo host true old.left o (Ok came) new state') (sym goes) comes)

pub do_thing-returns-in_ok-before-in-Waits-clause-comes : goal.do_thing-returns-in_ok-before-in-Waits-clause-comes
do_thing-returns-in_ok-before-in-Waits-clause-comes g t c =
    let host = g.H.Host.meaning in
    let old = c.args.self.now in
    let w = c.in-Waits.waiting.value in
    let more = c.in_ok-before-in-Waits.field-0.value in
    let comes = rw c.in-Waits.is at c.in_ok-end.ensures.comes in
    waits_before host old.limits old.left c.run_plan.new.self (g.H.Host.state c.run_plan.new.host) c.in_ok-end.ensures.same_limits
    (done_by (plan_does host old.limits (level_of host old) c.args.plan) (g.H.Host.state c.args.host.now) old)
    more.opens w.opens w.frames.items more.frames.items frame.Thing c.in_ok-before-in-Waits.ensures.0 c.in_ok-before-in-Waits.ensures.1 comes

pub make_parts-returns-in_ok-before-in-Waits-clause-falls : goal.make_parts-returns-in_ok-before-in-Waits-clause-falls
make_parts-returns-in_ok-before-in-Waits-clause-falls g t c =
    let waits = c.in-Waits.waiting.value in
    let more = c.in_ok-before-in-Waits.field-0.value in
    let fell = rw c.in-Waits.is at c.in_ok-waiting.ensures.falls in
    let told = rw (c.new-made.ensures, c.in_ok-parts-in-Waits.ensures) at c.in_ok-before-in-Waits.ensures.1 in
    let weighs = weighs_before more.opens waits.opens waits.frames.items more.frames.items (frame.Nested [] []) c.in_ok-before-in-Waits.ensures.0 told in
    let whole = ap parts_size c.in-Some.ensures in
    (fell.0, λ same. let weight = fell.1 same in omega (arith, weight, weighs, whole))

pub make_parts-returns-in_ok-before-in-Waits-clause-comes : goal.make_parts-returns-in_ok-before-in-Waits-clause-comes
make_parts-returns-in_ok-before-in-Waits-clause-comes g t c =
    let host = g.H.Host.meaning in
    let old = c.args.self.now in
    let state = g.H.Host.state c.args.host.now in
    let level = evaluate host old.limits old.left in
    let result = c.in_ok-waiting.ensures in
    let waits = c.in-Waits.waiting.value in
    let more = c.in_ok-before-in-Waits.field-0.value in
    let came = rw c.in-Waits.is at result.comes in
    let told = rw (c.new-made.ensures, c.in_ok-parts-in-Waits.ensures) at c.in_ok-before-in-Waits.ensures.1 in
    let before = waits_before host old.limits old.left c.run_script.new.self (g.H.Host.state c.run_script.new.host) result.same_limits
    (level c.in-Some.script.now state old.variables old.fuel) more.opens waits.opens waits.frames.items more.frames.items (frame.Nested [] [])
    c.in_ok-before-in-Waits.ensures.0 told came in
    (ap (λ parts. done_by (made_text old.limits level parts) state old) c.in-Some.ensures ∙ before.0, before.1)

pub make_text-returns-in_err-grow-in-Text-clause-comes : goal.make_text-returns-in_err-grow-in-Text-clause-comes
make_text-returns-in_err-grow-in-Text-clause-comes g t c =
    let host = g.H.Host.meaning in
    let old = c.args.self.now in
    let m = c.part.self in
    let inv = c.part.invariant in
    let state = g.H.Host.state c.part.host in
    let level = evaluate host old.limits old.left in
    let why = c.in_err-grow-in-Text.field-0.0 in
    let goes = inv.goes ∙ text_then old.limits level state m.variables m.fuel c.part.parts c.in-Some.part.now c.in-Text.text c.part.made c.in-Some.ensures c.in-Text.is in
    let halts = given_halts host old.limits old.left m state inv.limits inv.left true (appended old.limits c.part.made c.in-Text.text)
    (λ made. parts_do old.limits level (parts_of (drop 1 c.part.parts)) made state m.variables m.fuel) why (rw inv.limits at c.in_err-grow-in-Text.ensures) in
    let whole = comes_from host old.limits old.left m state inv.limits true _ _ (Err (halt_of_interrupt why)) goes halts in
    search rules

pub make_text-part-preserved-in-Text : goal.make_text-part-preserved-in-Text
make_text-part-preserved-in-Text g t c =
    let host = g.H.Host.meaning in
    let old = c.args.self.now in
    let m = c.part.self in
    let inv = c.part.invariant in
    let state = g.H.Host.state c.part.host in
    let level = evaluate host old.limits old.left in
    let part = c.in-Some.part.now in
    let weighs = text_weighs c.part.parts part c.in-Text.text c.in-Some.ensures c.in-Text.is in
    let size = inv.size in
    let grown = rw inv.limits at c.in_ok-grow-in-Text.ensures in
    rw c.skip.ensures (record {
      place = inv.place;
      limits = inv.limits;
      left = inv.left;
      spends = inv.spends;
      size = omega (arith, weighs, size);
      goes = inv.goes ∙ text_then old.limits level state m.variables m.fuel c.part.parts part c.in-Text.text c.part.made c.in-Some.ensures c.in-Text.is
          ∙ ap (λ r. given old.limits r state m.variables m.fuel (λ made. parts_do old.limits level (parts_of (drop 1 c.part.parts)) made state m.variables m.fuel)) grown;
    })

pub make_text-returns-in_err-grow_by_value-in-Variable-default-None-clause-comes :
    goal.make_text-returns-in_err-grow_by_value-in-Variable-default-None-clause-comes
make_text-returns-in_err-grow_by_value-in-Variable-default-None-clause-comes g t c =
    let host = g.H.Host.meaning in
    let old = c.args.self.now in
    let m = c.part.self in
    let inv = c.part.invariant in
    let state = g.H.Host.state c.part.host in
    let level = evaluate host old.limits old.left in
    let one = c.in-Variable-default-None in
    let is : c.in-Some.part.now ≡ Variable one.name None = search rules in
    let why = c.in_err-grow_by_value-in-Variable-default-None.field-0.0 in
    let goes = inv.goes ∙ value_then old.limits level state m.variables m.fuel c.part.parts c.in-Some.part.now one.name c.part.made c.in-Some.ensures is in
    let halts = given_halts host old.limits old.left m state inv.limits inv.left true (with_value old.limits m.variables one.name c.part.made)
    (λ made. parts_do old.limits level (parts_of (drop 1 c.part.parts)) made state m.variables m.fuel) why (rw inv.limits at c.in_err-grow_by_value-in-Variable-default-None.ensures) in
    let whole = comes_from host old.limits old.left m state inv.limits true _ _ (Err (halt_of_interrupt why)) goes halts in
    search rules

pub make_text-returns-in_err-index-in-Variable-default-Some-clause-comes :
    goal.make_text-returns-in_err-index-in-Variable-default-Some-clause-comes
make_text-returns-in_err-index-in-Variable-default-Some-clause-comes g t c =
    let host = g.H.Host.meaning in
    let old = c.args.self.now in
    let at = c.part.self in
    let inv = c.part.invariant in
    let state = g.H.Host.state c.part.host in
    let level = evaluate host old.limits old.left in
    let one = c.in-Variable-default-Some in
    let is : c.in-Some.part.now ≡ Variable one.name (Some one.index) = search rules in
    let goes = inv.goes ∙ index_then old.limits level state at.variables at.fuel c.part.parts c.in-Some.part.now one.name c.part.made one.index c.in-Some.ensures is in
    let m = c.make_index.new.self in
    let new = g.H.Host.state c.make_index.new.host in
    let why = c.in_err-index-in-Variable-default-Some.field-0.0 in
    let within = c.in_err-index-in-Variable-default-Some.ensures.same_limits ∙ inv.limits in
    let told : ComesSo host true at.left (parts_do at.limits (evaluate host at.limits at.left) one.index [] state at.variables at.fuel) (Err why) m (g.H.Host.state c.make_index.new.host) = search rules in
    let came = comes_at host m new true at.limits old.limits at.left old.left (λ l k. parts_do l (evaluate host l k) one.index [] state at.variables at.fuel) (Err why) inv.limits inv.left told in
    let halts = after_halts host old.limits old.left m new within true true _ (index_next old.limits level one.name c.part.made (parts_of (drop 1 c.part.parts))) why came in
    let whole = comes_from host old.limits old.left m new within true _ _ (Err why) goes halts in
    search rules

pub make_text-returns-in-Waits-clause-falls : goal.make_text-returns-in-Waits-clause-falls
make_text-returns-in-Waits-clause-falls g t c =
    let inv = c.part.invariant in
    let one = c.in-Variable-default-Some in
    let is : c.in-Some.part.now ≡ Variable one.name (Some one.index) = search rules in
    let waits = c.in-Waits.waiting.value in
    let more = c.in_ok-before-in-Waits.field-0.value in
    let told : FallsTo {E = Halt} (Ok c.in_ok-index-in-Variable-default-Some.index) (4 * parts_size one.index + 1) c.part.self.fuel c.make_index.new.self.fuel = search rules in
    let fell = rw c.in-Waits.is at told in
    let weighs = weighs_before more.opens waits.opens waits.frames.items more.frames.items (frame.Element c.in_ok-name-in-Variable-default-Some.name c.part.made c.skip-in-Variable-default-Some.new.self)
    c.in_ok-before-in-Waits.ensures.0 c.in_ok-before-in-Waits.ensures.1 in
    let smaller = index_smaller c.part.parts c.in-Some.part.now one.name one.index c.in-Some.ensures is in
    let behind = ap (λ ps. parts_size (parts_of ps)) c.skip-in-Variable-default-Some.ensures in
    let size = inv.size in
    let spends = inv.spends in
    let spent = fell.0 in
    (omega (arith, spent, spends), λ same. let weight = fell.1 (omega (arith, spent, spends, same)) in omega (arith, weight, weighs, smaller, behind, size))

pub make_text-returns-in-Waits-clause-comes : goal.make_text-returns-in-Waits-clause-comes
make_text-returns-in-Waits-clause-comes g t c =
    let host = g.H.Host.meaning in
    let old = c.args.self.now in
    let at = c.part.self in
    let inv = c.part.invariant in
    let state = g.H.Host.state c.part.host in
    let level = evaluate host old.limits old.left in
    let one = c.in-Variable-default-Some in
    let is : c.in-Some.part.now ≡ Variable one.name (Some one.index) = search rules in
    let goes = inv.goes ∙ index_then old.limits level state at.variables at.fuel c.part.parts c.in-Some.part.now one.name c.part.made one.index c.in-Some.ensures is in
    let index = c.in_ok-index-in-Variable-default-Some.ensures in
    let waits = c.in-Waits.waiting.value in
    let more = c.in_ok-before-in-Waits.field-0.value in
    let told : ComesSo host true at.left (parts_do at.limits (evaluate host at.limits at.left) one.index [] state at.variables at.fuel) (Ok c.in_ok-index-in-Variable-default-Some.index) c.make_index.new.self (g.H.Host.state c.make_index.new.host) = search rules in
    let came = rw (c.in-Waits.is, inv.limits, inv.left) at told in
    let before = waits_before host old.limits old.left c.make_index.new.self (g.H.Host.state c.make_index.new.host) (index.same_limits ∙ inv.limits)
    (parts_do old.limits level one.index [] state at.variables at.fuel) more.opens waits.opens waits.frames.items more.frames.items
    (frame.Element c.in_ok-name-in-Variable-default-Some.name c.part.made c.skip-in-Variable-default-Some.new.self)
    c.in_ok-before-in-Waits.ensures.0 c.in_ok-before-in-Waits.ensures.1 came in
    let here = rw (← c.in_ok-name-in-Variable-default-Some.ensures, ← c.skip-in-Variable-default-Some.ensures) at goes in
    (here ∙ before.0, before.1)

pub make_text-returns-then-end-ne0-clause-comes : goal.make_text-returns-then-end-ne0-clause-comes
make_text-returns-then-end-ne0-clause-comes g t c =
    let host = g.H.Host.meaning in
    let old = c.args.self.now in
    let at = c.part.self in
    let inv = c.part.invariant in
    let state = g.H.Host.state c.part.host in
    let level = evaluate host old.limits old.left in
    let one = c.in-Variable-default-Some in
    let is : c.in-Some.part.now ≡ Variable one.name (Some one.index) = search rules in
    let end = c.in-Ended.end in
    let m = c.make_index.new.self in
    let told : ComesSo host true at.left (parts_do at.limits (evaluate host at.limits at.left) one.index [] state at.variables at.fuel) (Ok c.in_ok-index-in-Variable-default-Some.index) m (g.H.Host.state c.make_index.new.host) = search rules in
    let came = rw (c.in-Ended.is, inv.limits, inv.left) at told in
    let other : (end.code == 0) ≡ false = search rules in (
      inv.goes ∙ index_then old.limits level state at.variables at.fuel c.part.parts c.in-Some.part.now one.name c.part.made one.index c.in-Some.ensures is
          ∙ ap (λ o. after o (index_next old.limits level one.name c.part.made (parts_of (drop 1 c.part.parts)))) came.0
          ∙ after_other end.code end.text (g.H.Host.state c.make_index.new.host) m.variables m.fuel (index_next old.limits level one.name c.part.made (parts_of (drop 1 c.part.parts))) other,
      came.1,
    )

pub make_text-returns-in_err-grow_by_value-in-Ended-clause-comes :
    goal.make_text-returns-in_err-grow_by_value-in-Ended-clause-comes
make_text-returns-in_err-grow_by_value-in-Ended-clause-comes g t c =
    let host = g.H.Host.meaning in
    let old = c.args.self.now in
    let at = c.part.self in
    let inv = c.part.invariant in
    let state = g.H.Host.state c.part.host in
    let level = evaluate host old.limits old.left in
    let one = c.in-Variable-default-Some in
    let is : c.in-Some.part.now ≡ Variable one.name (Some one.index) = search rules in
    let end = c.in-Ended.end in
    let m = c.make_index.new.self in
    let new = g.H.Host.state c.make_index.new.host in
    let index = c.in_ok-index-in-Variable-default-Some.ensures in
    let within = index.same_limits ∙ inv.limits in
    let told : ComesSo host true at.left (parts_do at.limits (evaluate host at.limits at.left) one.index [] state at.variables at.fuel) (Ok c.in_ok-index-in-Variable-default-Some.index) m (g.H.Host.state c.make_index.new.host) = search rules in
    let came = rw (c.in-Ended.is, inv.limits, inv.left) at told in
    let zero : end.code ≡ 0 = search rules in
    let named : c.in_ok-name-in-Ended.name ≡ element_name one.name end.text = c.in_ok-name-in-Ended.ensures ∙ ap (λ n. element_name n end.text) c.in_ok-name-in-Variable-default-Some.ensures in
    let why = c.in_err-grow_by_value-in-Ended.field-0.0 in
    let goes = inv.goes ∙ index_then old.limits level state at.variables at.fuel c.part.parts c.in-Some.part.now one.name c.part.made one.index c.in-Some.ensures is
    ∙ ap (λ o. after o (index_next old.limits level one.name c.part.made (parts_of (drop 1 c.part.parts)))) came.0
    ∙ ap (λ k. after (End k end.text new m.variables m.fuel) (index_next old.limits level one.name c.part.made (parts_of (drop 1 c.part.parts)))) zero in
    let grows = rw (within, named) at c.in_err-grow_by_value-in-Ended.ensures in
    let halts = given_halts host old.limits old.left m new within came.1 true (with_value old.limits m.variables (element_name one.name end.text) c.part.made)
    (λ made. parts_do old.limits level (parts_of (drop 1 c.part.parts)) made new m.variables m.fuel) why grows in
    let whole = comes_from host old.limits old.left m new within true _ _ (Err (halt_of_interrupt why)) goes halts in
    search rules

pub make_text-part-preserved-in-Variable-default-Some : goal.make_text-part-preserved-in-Variable-default-Some
make_text-part-preserved-in-Variable-default-Some g t c =
    let host = g.H.Host.meaning in
    let old = c.args.self.now in
    let at = c.part.self in
    let inv = c.part.invariant in
    let state = g.H.Host.state c.part.host in
    let level = evaluate host old.limits old.left in
    let one = c.in-Variable-default-Some in
    let is : c.in-Some.part.now ≡ Variable one.name (Some one.index) = search rules in
    let end = c.in-Ended.end in
    let m = c.make_index.new.self in
    let new = g.H.Host.state c.make_index.new.host in
    let index = c.in_ok-index-in-Variable-default-Some.ensures in
    let within = index.same_limits ∙ inv.limits in
    let told : ComesSo host true at.left (parts_do at.limits (evaluate host at.limits at.left) one.index [] state at.variables at.fuel) (Ok c.in_ok-index-in-Variable-default-Some.index) m (g.H.Host.state c.make_index.new.host) = search rules in
    let came = rw (c.in-Ended.is, inv.limits, inv.left) at told in
    let zero : end.code ≡ 0 = search rules in
    let named : c.in_ok-name-in-Ended.name ≡ element_name one.name end.text = c.in_ok-name-in-Ended.ensures ∙ ap (λ n. element_name n end.text) c.in_ok-name-in-Variable-default-Some.ensures in
    let grown = rw (within, named) at c.in_ok-grow_by_value-in-Ended.ensures in
    let fell = rw c.in-Ended.is at index.falls in
    let smaller = index_smaller c.part.parts c.in-Some.part.now one.name one.index c.in-Some.ensures is in
    let size = inv.size in
    let spends = inv.spends in
    rw c.skip-in-Variable-default-Some.ensures (record {
      place = index.same_place ∙ inv.place;
      limits = within;
      left = came.1;
      spends = omega (arith, fell, spends);
      size = omega (arith, smaller, size);
      goes = inv.goes ∙ index_then old.limits level state at.variables at.fuel c.part.parts c.in-Some.part.now one.name c.part.made one.index c.in-Some.ensures is
          ∙ ap (λ o. after o (index_next old.limits level one.name c.part.made (parts_of (drop 1 c.part.parts)))) came.0
          ∙ ap (λ k. after (End k end.text new m.variables m.fuel) (index_next old.limits level one.name c.part.made (parts_of (drop 1 c.part.parts)))) zero
          ∙ ap (λ r. given old.limits r new m.variables m.fuel (λ made. parts_do old.limits level (parts_of (drop 1 c.part.parts)) made new m.variables m.fuel)) grown;
    })

pub make_text-returns-in_err-result-in-Nested-clause-comes :
    goal.make_text-returns-in_err-result-in-Nested-clause-comes
make_text-returns-in_err-result-in-Nested-clause-comes g t c =
    let host = g.H.Host.meaning in
    let old = c.args.self.now in
    let at = c.part.self in
    let inv = c.part.invariant in
    let state = g.H.Host.state c.part.host in
    let level = evaluate host old.limits old.left in
    let goes = inv.goes ∙ nested_then old.limits level state at.variables at.fuel c.part.parts c.in-Some.part.now c.in-Nested.script c.part.made c.in-Some.ensures c.in-Nested.is in
    let m = c.run_script.new.self in
    let new = g.H.Host.state c.run_script.new.host in
    let why = c.in_err-result-in-Nested.field-0.0 in
    let came = rw (inv.limits, inv.left) at c.in_err-result-in-Nested.ensures.comes in
    let stops = passes (λ o. after o (nested_next old.limits level c.part.made (parts_of (drop 1 c.part.parts)))) (λ why. refl) _ why came in
    let whole = comes_from host old.limits old.left m new (c.in_err-result-in-Nested.ensures.same_limits ∙ inv.limits) true _ _ (Err (halt.Stop why)) goes stops in
    search rules

pub make_text-returns-in-Waits-result-clause-falls : goal.make_text-returns-in-Waits-result-clause-falls
make_text-returns-in-Waits-result-clause-falls g t c =
    let inv = c.part.invariant in
    let waits = c.in-Waits-result.waiting.value in
    let more = c.in_ok-before-in-Waits-result.field-0.value in
    let fell = rw c.in-Waits-result.is at c.in_ok-result-in-Nested.ensures.falls in
    let weighs = weighs_before more.opens waits.opens waits.frames.items more.frames.items (frame.Nested c.part.made c.skip-in-Nested.new.self)
    c.in_ok-before-in-Waits-result.ensures.0 c.in_ok-before-in-Waits-result.ensures.1 in
    let smaller = nested_smaller c.part.parts c.in-Some.part.now c.in-Nested.script c.in-Some.ensures c.in-Nested.is in
    let behind = ap (λ ps. parts_size (parts_of ps)) c.skip-in-Nested.ensures in
    let size = inv.size in
    let spends = inv.spends in
    let spent = fell.0 in
    (omega (arith, spent, spends), λ same. let weight = fell.1 (omega (arith, spent, spends, same)) in omega (arith, weight, weighs, smaller, behind, size))

pub make_text-returns-in-Waits-result-clause-comes : goal.make_text-returns-in-Waits-result-clause-comes
make_text-returns-in-Waits-result-clause-comes g t c =
    let host = g.H.Host.meaning in
    let old = c.args.self.now in
    let at = c.part.self in
    let inv = c.part.invariant in
    let state = g.H.Host.state c.part.host in
    let level = evaluate host old.limits old.left in
    let goes = inv.goes ∙ nested_then old.limits level state at.variables at.fuel c.part.parts c.in-Some.part.now c.in-Nested.script c.part.made c.in-Some.ensures c.in-Nested.is in
    let result = c.in_ok-result-in-Nested.ensures in
    let waits = c.in-Waits-result.waiting.value in
    let more = c.in_ok-before-in-Waits-result.field-0.value in
    let came = rw (c.in-Waits-result.is, inv.limits, inv.left) at result.comes in
    let before = waits_before host old.limits old.left c.run_script.new.self (g.H.Host.state c.run_script.new.host) (result.same_limits ∙ inv.limits)
    (level c.in-Nested.script state at.variables at.fuel) more.opens waits.opens waits.frames.items more.frames.items
    (frame.Nested c.part.made c.skip-in-Nested.new.self)
    c.in_ok-before-in-Waits-result.ensures.0 c.in_ok-before-in-Waits-result.ensures.1 came in
    let here = rw (← c.skip-in-Nested.ensures) at goes in
    (here ∙ before.0, before.1)

pub make_text-returns-clause-comes : goal.make_text-returns-clause-comes
make_text-returns-clause-comes g t c =
    let old = c.args.self.now in
    let m = c.part.self in
    let inv = c.part.invariant in (
      inv.goes ∙ parts_made old.limits (evaluate g.H.Host.meaning old.limits old.left) (g.H.Host.state c.part.host) m.variables m.fuel c.part.parts c.part.made c.in_default.ensures
          ∙ rw c.with.ensures refl,
      inv.left,
    )

pub make_turns-returns-in_err-value-clause-comes : goal.make_turns-returns-in_err-value-clause-comes
make_turns-returns-in_err-value-clause-comes g t c =
    let host = g.H.Host.meaning in
    let first = c.args.self.now in
    let old = c.turn.self in
    let new = c.take_step.new.self in
    let m = c.value.new.self in
    let turns = c.args.turns in
    let so_far = c.turn.invariant in
    let there = g.H.Host.state c.value.new.host in
    let tests = loop_begins host first turns c.turn.turns c.condition.result.now (g.H.Host.state c.turn.host) old new c.in_ok-items.items
    (record { is = so_far.goes; within = so_far.limits; here = so_far.left }) so_far.turns
    c.in_ok-take_step.ensures.step c.in_ok-take_step.ensures.kept c.condition.ensures c.in_ok-items.ensures in
    let halts = value_halts host m there tests true c.in_err-value.field-0.0 c.in_err-value.ensures.comes in
    search rules

pub make_turns-returns-in_err-holds-in-Value-clause-comes : goal.make_turns-returns-in_err-holds-in-Value-clause-comes
make_turns-returns-in_err-holds-in-Value-clause-comes g t c =
    let host = g.H.Host.meaning in
    let first = c.args.self.now in
    let old = c.turn.self in
    let new = c.take_step.new.self in
    let m = c.value.new.self in
    let turns = c.args.turns in
    let so_far = c.turn.invariant in
    let there = g.H.Host.state c.value.new.host in
    let tests = loop_begins host first turns c.turn.turns c.condition.result.now (g.H.Host.state c.turn.host) old new c.in_ok-items.items
    (record { is = so_far.goes; within = so_far.limits; here = so_far.left }) so_far.turns
    c.in_ok-take_step.ensures.step c.in_ok-take_step.ensures.kept c.condition.ensures c.in_ok-items.ensures in
    let comes = rw c.in-Value.is at c.in_ok-value.ensures.comes in
    let halts = truth_halts host m there tests true c.in-Value.value c.in_err-holds-in-Value.field-0.0 c.value.ensures.same_limits comes c.in_err-holds-in-Value.ensures in
    search rules

pub make_turns-returns-then-not-branch-clause-comes : goal.make_turns-returns-then-not-branch-clause-comes
make_turns-returns-then-not-branch-clause-comes g t c =
    let host = g.H.Host.meaning in
    let first = c.args.self.now in
    let old = c.turn.self in
    let new = c.take_step.new.self in
    let m = c.value.new.self in
    let turns = c.args.turns in
    let so_far = c.turn.invariant in
    let there = g.H.Host.state c.value.new.host in
    let tests = loop_begins host first turns c.turn.turns c.condition.result.now (g.H.Host.state c.turn.host) old new c.in_ok-items.items
    (record { is = so_far.goes; within = so_far.limits; here = so_far.left }) so_far.turns
    c.in_ok-take_step.ensures.step c.in_ok-take_step.ensures.kept c.condition.ensures c.in_ok-items.ensures in
    let comes = rw c.in-Value.is at c.in_ok-value.ensures.comes in
    let fails = value_holds host m there tests c.in-Value.value false c.value.ensures.same_limits comes (search rules) in
    rw c.silent.ensures (fails.is, fails.here)

pub make_turns-returns-in-Ended-clause-comes : goal.make_turns-returns-in-Ended-clause-comes
make_turns-returns-in-Ended-clause-comes g t c =
    let host = g.H.Host.meaning in
    let first = c.args.self.now in
    let old = c.turn.self in
    let new = c.take_step.new.self in
    let m = c.value.new.self in
    let turns = c.args.turns in
    let so_far = c.turn.invariant in
    let there = g.H.Host.state c.value.new.host in
    let tests = loop_begins host first turns c.turn.turns c.condition.result.now (g.H.Host.state c.turn.host) old new c.in_ok-items.items
    (record { is = so_far.goes; within = so_far.limits; here = so_far.left }) so_far.turns
    c.in_ok-take_step.ensures.step c.in_ok-take_step.ensures.kept c.condition.ensures c.in_ok-items.ensures in
    let ends = value_ends host m there tests c.in-Ended.end c.value.ensures.same_limits (rw c.in-Ended.is at c.in_ok-value.ensures.comes) in
    (ends.is, ends.here)

pub make_turns-returns-in-Waits-clause-comes : goal.make_turns-returns-in-Waits-clause-comes
make_turns-returns-in-Waits-clause-comes g t c =
    let host = g.H.Host.meaning in
    let first = c.args.self.now in
    let old = c.turn.self in
    let new = c.take_step.new.self in
    let m = c.value.new.self in
    let turns = c.args.turns in
    let so_far = c.turn.invariant in
    let there = g.H.Host.state c.value.new.host in
    let tests = loop_begins host first turns c.turn.turns c.condition.result.now (g.H.Host.state c.turn.host) old new c.in_ok-items.items
    (record { is = so_far.goes; within = so_far.limits; here = so_far.left }) so_far.turns
    c.in_ok-take_step.ensures.step c.in_ok-take_step.ensures.kept c.condition.ensures c.in_ok-items.ensures in
    let before = rw so_far.turns at c.in_ok-before-in-Waits.ensures in
    value_waits host m there tests c.in-Waits.waiting.value c.in_ok-before-in-Waits.field-0.value (frame.Turns stages.Condition turns) c.value.ensures.same_limits (λ outcome. refl)
    before (rw c.in-Waits.is at c.in_ok-value.ensures.comes)

pub make_turns-returns-in_err-end-clause-comes : goal.make_turns-returns-in_err-end-clause-comes
make_turns-returns-in_err-end-clause-comes g t c =
    let host = g.H.Host.meaning in
    let first = c.args.self.now in
    let old = c.turn.self in
    let new = c.take_step.new.self in
    let m = c.value.new.self in
    let turns = c.args.turns in
    let so_far = c.turn.invariant in
    let there = g.H.Host.state c.value.new.host in
    let again = loop_does first.limits (level_of host first) turns in
    let tests = loop_begins host first turns c.turn.turns c.condition.result.now (g.H.Host.state c.turn.host) old new c.in_ok-items.items
    (record { is = so_far.goes; within = so_far.limits; here = so_far.left }) so_far.turns
    c.in_ok-take_step.ensures.step c.in_ok-take_step.ensures.kept c.condition.ensures c.in_ok-items.ensures in
    let comes = rw c.in-Value.is at c.in_ok-value.ensures.comes in
    let holds = value_holds host m there tests c.in-Value.value true c.value.ensures.same_limits comes (search rules) in
    let runs = body_begins host first turns c.turn.turns again c.body.result.now c.script.result.now there m holds so_far.turns c.body.ensures c.script.ensures in
    let stops = script_stops host c.run_script.new.self (g.H.Host.state c.run_script.new.host) runs c.in_err-end.field-0.0 (λ why. refl) c.in_err-end.ensures.comes in
    search rules

pub make_turns-returns-in-3-clause-comes : goal.make_turns-returns-in-3-clause-comes
make_turns-returns-in-3-clause-comes g t c =
    let host = g.H.Host.meaning in
    let first = c.args.self.now in
    let old = c.turn.self in
    let new = c.take_step.new.self in
    let m = c.value.new.self in
    let turns = c.args.turns in
    let so_far = c.turn.invariant in
    let there = g.H.Host.state c.value.new.host in
    let again = loop_does first.limits (level_of host first) turns in
    let tests = loop_begins host first turns c.turn.turns c.condition.result.now (g.H.Host.state c.turn.host) old new c.in_ok-items.items
    (record { is = so_far.goes; within = so_far.limits; here = so_far.left }) so_far.turns
    c.in_ok-take_step.ensures.step c.in_ok-take_step.ensures.kept c.condition.ensures c.in_ok-items.ensures in
    let comes = rw c.in-Value.is at c.in_ok-value.ensures.comes in
    let holds = value_holds host m there tests c.in-Value.value true c.value.ensures.same_limits comes (search rules) in
    let runs = body_begins host first turns c.turn.turns again c.body.result.now c.script.result.now there m holds so_far.turns c.body.ensures c.script.ensures in
    let next = behind_body (level_of host first) turns again in
    let n = c.run_script.new.self in
    let late = g.H.Host.state c.run_script.new.host in
    let end = c.in-Ended-2.end in
    let ran = script_ends host n late runs end (λ told text s v u. refl) c.run_script.ensures.same_limits (rw c.in-Ended-2.is at c.in_ok-end.ensures.comes) in
    let ended = ap (λ k. after_body (End k end.text late n.variables n.fuel) next) c.in-3.is in
    rw c.silent-in-3.ensures (ran.is ∙ ended, ran.here)

pub make_turns-returns-in_default-clause-comes : goal.make_turns-returns-in_default-clause-comes
make_turns-returns-in_default-clause-comes g t c =
    let host = g.H.Host.meaning in
    let first = c.args.self.now in
    let old = c.turn.self in
    let new = c.take_step.new.self in
    let m = c.value.new.self in
    let turns = c.args.turns in
    let so_far = c.turn.invariant in
    let there = g.H.Host.state c.value.new.host in
    let again = loop_does first.limits (level_of host first) turns in
    let tests = loop_begins host first turns c.turn.turns c.condition.result.now (g.H.Host.state c.turn.host) old new c.in_ok-items.items
    (record { is = so_far.goes; within = so_far.limits; here = so_far.left }) so_far.turns
    c.in_ok-take_step.ensures.step c.in_ok-take_step.ensures.kept c.condition.ensures c.in_ok-items.ensures in
    let comes = rw c.in-Value.is at c.in_ok-value.ensures.comes in
    let holds = value_holds host m there tests c.in-Value.value true c.value.ensures.same_limits comes (search rules) in
    let runs = body_begins host first turns c.turn.turns again c.body.result.now c.script.result.now there m holds so_far.turns c.body.ensures c.script.ensures in
    let next = behind_body (level_of host first) turns again in
    let n = c.run_script.new.self in
    let late = g.H.Host.state c.run_script.new.host in
    let end = c.in-Ended-2.end in
    let ran = script_ends host n late runs end (λ told text s v u. refl) c.run_script.ensures.same_limits (rw c.in-Ended-2.is at c.in_ok-end.ensures.comes) in
    let ended : after_body (End end.code end.text late n.variables n.fuel) next ≡ End end.code end.text late n.variables n.fuel = search rules in
    (ran.is ∙ ended, ran.here)

pub make_turns-returns-in-Waits-2-clause-comes : goal.make_turns-returns-in-Waits-2-clause-comes
make_turns-returns-in-Waits-2-clause-comes g t c =
    let host = g.H.Host.meaning in
    let first = c.args.self.now in
    let old = c.turn.self in
    let new = c.take_step.new.self in
    let m = c.value.new.self in
    let turns = c.args.turns in
    let so_far = c.turn.invariant in
    let there = g.H.Host.state c.value.new.host in
    let again = loop_does first.limits (level_of host first) turns in
    let tests = loop_begins host first turns c.turn.turns c.condition.result.now (g.H.Host.state c.turn.host) old new c.in_ok-items.items
    (record { is = so_far.goes; within = so_far.limits; here = so_far.left }) so_far.turns
    c.in_ok-take_step.ensures.step c.in_ok-take_step.ensures.kept c.condition.ensures c.in_ok-items.ensures in
    let comes = rw c.in-Value.is at c.in_ok-value.ensures.comes in
    let holds = value_holds host m there tests c.in-Value.value true c.value.ensures.same_limits comes (search rules) in
    let runs = body_begins host first turns c.turn.turns again c.body.result.now c.script.result.now there m holds so_far.turns c.body.ensures c.script.ensures in
    let before = rw so_far.turns at c.in_ok-before-in-Waits-2.ensures in
    script_waits host c.run_script.new.self (g.H.Host.state c.run_script.new.host) runs c.in-Waits-2.waiting.value c.in_ok-before-in-Waits-2.field-0.value (frame.Turns stages.Body turns)
    c.run_script.ensures.same_limits (λ outcome. refl) before (rw c.in-Waits-2.is at c.in_ok-end.ensures.comes)

pub make_turns-turn-preserved-in_default-next : goal.make_turns-turn-preserved-in_default-next
make_turns-turn-preserved-in_default-next g t c =
    let host = g.H.Host.meaning in
    let first = c.args.self.now in
    let old = c.turn.self in
    let new = c.take_step.new.self in
    let m = c.value.new.self in
    let turns = c.args.turns in
    let so_far = c.turn.invariant in
    let there = g.H.Host.state c.value.new.host in
    let again = loop_does first.limits (level_of host first) turns in
    let tests = loop_begins host first turns c.turn.turns c.condition.result.now (g.H.Host.state c.turn.host) old new c.in_ok-items.items
    (record { is = so_far.goes; within = so_far.limits; here = so_far.left }) so_far.turns
    c.in_ok-take_step.ensures.step c.in_ok-take_step.ensures.kept c.condition.ensures c.in_ok-items.ensures in
    let comes = rw c.in-Value.is at c.in_ok-value.ensures.comes in
    let holds = value_holds host m there tests c.in-Value.value true c.value.ensures.same_limits comes (search rules) in
    let runs = body_begins host first turns c.turn.turns again c.body.result.now c.script.result.now there m holds so_far.turns c.body.ensures c.script.ensures in
    let next = behind_body (level_of host first) turns again in
    let n = c.run_script.new.self in
    let late = g.H.Host.state c.run_script.new.host in
    let end = c.in-Ended-2.end in
    let ran = script_ends host n late runs end (λ told text s v u. refl) c.run_script.ensures.same_limits (rw c.in-Ended-2.is at c.in_ok-end.ensures.comes) in
    let falls = rw c.in-Ended-2.is at c.in_ok-end.ensures.falls in
    let whole = none_begins host first turns c.turn.turns again late n (body_again host first end.code end.text next late n ran c.in-0.is) so_far.turns c.in_default-next.ensures in
    record {
      place = c.run_script.ensures.same_place ∙ c.value.ensures.same_place ∙ so_far.place;
      limits = whole.within;
      left = whole.here;
      spends = omega (arith, falls, c.value.ensures.spends, c.in_ok-take_step.ensures.step, so_far.spends);
      turns = so_far.turns;
      goes = whole.is;
    }

pub make_turns-returns-in_err-end-2-clause-comes : goal.make_turns-returns-in_err-end-2-clause-comes
make_turns-returns-in_err-end-2-clause-comes g t c =
    let host = g.H.Host.meaning in
    let first = c.args.self.now in
    let old = c.turn.self in
    let new = c.take_step.new.self in
    let m = c.value.new.self in
    let turns = c.args.turns in
    let so_far = c.turn.invariant in
    let there = g.H.Host.state c.value.new.host in
    let again = loop_does first.limits (level_of host first) turns in
    let tests = loop_begins host first turns c.turn.turns c.condition.result.now (g.H.Host.state c.turn.host) old new c.in_ok-items.items
    (record { is = so_far.goes; within = so_far.limits; here = so_far.left }) so_far.turns
    c.in_ok-take_step.ensures.step c.in_ok-take_step.ensures.kept c.condition.ensures c.in_ok-items.ensures in
    let comes = rw c.in-Value.is at c.in_ok-value.ensures.comes in
    let holds = value_holds host m there tests c.in-Value.value true c.value.ensures.same_limits comes (search rules) in
    let runs = body_begins host first turns c.turn.turns again c.body.result.now c.script.result.now there m holds so_far.turns c.body.ensures c.script.ensures in
    let next = behind_body (level_of host first) turns again in
    let n = c.run_script.new.self in
    let late = g.H.Host.state c.run_script.new.host in
    let end = c.in-Ended-2.end in
    let ran = script_ends host n late runs end (λ told text s v u. refl) c.run_script.ensures.same_limits (rw c.in-Ended-2.is at c.in_ok-end.ensures.comes) in
    let behind = next_begins host first turns c.turn.turns again c.in-Some.next.now c.script-in-turn.result.now late n
    (body_again host first end.code end.text next late n ran c.in-0.is) so_far.turns c.in-Some.ensures c.script-in-turn.ensures in
    let stops = script_stops host c.run_script-in-turn.new.self (g.H.Host.state c.run_script-in-turn.new.host) behind c.in_err-end-2.field-0.0 (λ why. refl) c.in_err-end-2.ensures.comes in
    search rules

pub make_turns-returns-in-3-code-clause-comes : goal.make_turns-returns-in-3-code-clause-comes
make_turns-returns-in-3-code-clause-comes g t c =
    let host = g.H.Host.meaning in
    let first = c.args.self.now in
    let old = c.turn.self in
    let new = c.take_step.new.self in
    let m = c.value.new.self in
    let turns = c.args.turns in
    let so_far = c.turn.invariant in
    let there = g.H.Host.state c.value.new.host in
    let again = loop_does first.limits (level_of host first) turns in
    let tests = loop_begins host first turns c.turn.turns c.condition.result.now (g.H.Host.state c.turn.host) old new c.in_ok-items.items
    (record { is = so_far.goes; within = so_far.limits; here = so_far.left }) so_far.turns
    c.in_ok-take_step.ensures.step c.in_ok-take_step.ensures.kept c.condition.ensures c.in_ok-items.ensures in
    let comes = rw c.in-Value.is at c.in_ok-value.ensures.comes in
    let holds = value_holds host m there tests c.in-Value.value true c.value.ensures.same_limits comes (search rules) in
    let runs = body_begins host first turns c.turn.turns again c.body.result.now c.script.result.now there m holds so_far.turns c.body.ensures c.script.ensures in
    let next = behind_body (level_of host first) turns again in
    let n = c.run_script.new.self in
    let late = g.H.Host.state c.run_script.new.host in
    let end = c.in-Ended-2.end in
    let ran = script_ends host n late runs end (λ told text s v u. refl) c.run_script.ensures.same_limits (rw c.in-Ended-2.is at c.in_ok-end.ensures.comes) in
    let behind = next_begins host first turns c.turn.turns again c.in-Some.next.now c.script-in-turn.result.now late n
    (body_again host first end.code end.text next late n ran c.in-0.is) so_far.turns c.in-Some.ensures c.script-in-turn.ensures in
    let k = c.run_script-in-turn.new.self in
    let last = g.H.Host.state c.run_script-in-turn.new.host in
    let ending = c.in-Ended-3.end in
    let went = script_ends host k last behind ending (λ told text s v u. refl) c.run_script-in-turn.ensures.same_limits (rw c.in-Ended-3.is at c.in_ok-end-2.ensures.comes) in
    let ended = ap (λ j. after_next (End j ending.text last k.variables k.fuel) again) c.in-3-code.is in
    rw c.silent-in-3-code.ensures (went.is ∙ ended, went.here)

pub make_turns-returns-in_default-code-clause-comes : goal.make_turns-returns-in_default-code-clause-comes
make_turns-returns-in_default-code-clause-comes g t c =
    let host = g.H.Host.meaning in
    let first = c.args.self.now in
    let old = c.turn.self in
    let new = c.take_step.new.self in
    let m = c.value.new.self in
    let turns = c.args.turns in
    let so_far = c.turn.invariant in
    let there = g.H.Host.state c.value.new.host in
    let again = loop_does first.limits (level_of host first) turns in
    let tests = loop_begins host first turns c.turn.turns c.condition.result.now (g.H.Host.state c.turn.host) old new c.in_ok-items.items
    (record { is = so_far.goes; within = so_far.limits; here = so_far.left }) so_far.turns
    c.in_ok-take_step.ensures.step c.in_ok-take_step.ensures.kept c.condition.ensures c.in_ok-items.ensures in
    let comes = rw c.in-Value.is at c.in_ok-value.ensures.comes in
    let holds = value_holds host m there tests c.in-Value.value true c.value.ensures.same_limits comes (search rules) in
    let runs = body_begins host first turns c.turn.turns again c.body.result.now c.script.result.now there m holds so_far.turns c.body.ensures c.script.ensures in
    let next = behind_body (level_of host first) turns again in
    let n = c.run_script.new.self in
    let late = g.H.Host.state c.run_script.new.host in
    let end = c.in-Ended-2.end in
    let ran = script_ends host n late runs end (λ told text s v u. refl) c.run_script.ensures.same_limits (rw c.in-Ended-2.is at c.in_ok-end.ensures.comes) in
    let behind = next_begins host first turns c.turn.turns again c.in-Some.next.now c.script-in-turn.result.now late n
    (body_again host first end.code end.text next late n ran c.in-0.is) so_far.turns c.in-Some.ensures c.script-in-turn.ensures in
    let k = c.run_script-in-turn.new.self in
    let last = g.H.Host.state c.run_script-in-turn.new.host in
    let ending = c.in-Ended-3.end in
    let went = script_ends host k last behind ending (λ told text s v u. refl) c.run_script-in-turn.ensures.same_limits (rw c.in-Ended-3.is at c.in_ok-end-2.ensures.comes) in
    let ended : after_next (End ending.code ending.text last k.variables k.fuel) again ≡ End ending.code ending.text last k.variables k.fuel = search rules in
    (went.is ∙ ended, went.here)

pub make_turns-returns-in-Waits-3-clause-comes : goal.make_turns-returns-in-Waits-3-clause-comes
make_turns-returns-in-Waits-3-clause-comes g t c =
    let host = g.H.Host.meaning in
    let first = c.args.self.now in
    let old = c.turn.self in
    let new = c.take_step.new.self in
    let m = c.value.new.self in
    let turns = c.args.turns in
    let so_far = c.turn.invariant in
    let there = g.H.Host.state c.value.new.host in
    let again = loop_does first.limits (level_of host first) turns in
    let tests = loop_begins host first turns c.turn.turns c.condition.result.now (g.H.Host.state c.turn.host) old new c.in_ok-items.items
    (record { is = so_far.goes; within = so_far.limits; here = so_far.left }) so_far.turns
    c.in_ok-take_step.ensures.step c.in_ok-take_step.ensures.kept c.condition.ensures c.in_ok-items.ensures in
    let comes = rw c.in-Value.is at c.in_ok-value.ensures.comes in
    let holds = value_holds host m there tests c.in-Value.value true c.value.ensures.same_limits comes (search rules) in
    let runs = body_begins host first turns c.turn.turns again c.body.result.now c.script.result.now there m holds so_far.turns c.body.ensures c.script.ensures in
    let next = behind_body (level_of host first) turns again in
    let n = c.run_script.new.self in
    let late = g.H.Host.state c.run_script.new.host in
    let end = c.in-Ended-2.end in
    let ran = script_ends host n late runs end (λ told text s v u. refl) c.run_script.ensures.same_limits (rw c.in-Ended-2.is at c.in_ok-end.ensures.comes) in
    let behind = next_begins host first turns c.turn.turns again c.in-Some.next.now c.script-in-turn.result.now late n
    (body_again host first end.code end.text next late n ran c.in-0.is) so_far.turns c.in-Some.ensures c.script-in-turn.ensures in
    let before = rw so_far.turns at c.in_ok-before-in-Waits-3.ensures in
    script_waits host c.run_script-in-turn.new.self (g.H.Host.state c.run_script-in-turn.new.host) behind c.in-Waits-3.waiting.value c.in_ok-before-in-Waits-3.field-0.value (frame.Turns stages.Next turns)
    c.run_script-in-turn.ensures.same_limits (λ outcome. refl) before (rw c.in-Waits-3.is at c.in_ok-end-2.ensures.comes)

pub make_turns-turn-preserved : goal.make_turns-turn-preserved
make_turns-turn-preserved g t c =
    let host = g.H.Host.meaning in
    let first = c.args.self.now in
    let old = c.turn.self in
    let new = c.take_step.new.self in
    let m = c.value.new.self in
    let turns = c.args.turns in
    let so_far = c.turn.invariant in
    let there = g.H.Host.state c.value.new.host in
    let again = loop_does first.limits (level_of host first) turns in
    let tests = loop_begins host first turns c.turn.turns c.condition.result.now (g.H.Host.state c.turn.host) old new c.in_ok-items.items
    (record { is = so_far.goes; within = so_far.limits; here = so_far.left }) so_far.turns
    c.in_ok-take_step.ensures.step c.in_ok-take_step.ensures.kept c.condition.ensures c.in_ok-items.ensures in
    let comes = rw c.in-Value.is at c.in_ok-value.ensures.comes in
    let holds = value_holds host m there tests c.in-Value.value true c.value.ensures.same_limits comes (search rules) in
    let runs = body_begins host first turns c.turn.turns again c.body.result.now c.script.result.now there m holds so_far.turns c.body.ensures c.script.ensures in
    let next = behind_body (level_of host first) turns again in
    let n = c.run_script.new.self in
    let late = g.H.Host.state c.run_script.new.host in
    let end = c.in-Ended-2.end in
    let ran = script_ends host n late runs end (λ told text s v u. refl) c.run_script.ensures.same_limits (rw c.in-Ended-2.is at c.in_ok-end.ensures.comes) in
    let behind = next_begins host first turns c.turn.turns again c.in-Some.next.now c.script-in-turn.result.now late n
    (body_again host first end.code end.text next late n ran c.in-0.is) so_far.turns c.in-Some.ensures c.script-in-turn.ensures in
    let k = c.run_script-in-turn.new.self in
    let last = g.H.Host.state c.run_script-in-turn.new.host in
    let ending = c.in-Ended-3.end in
    let went = script_ends host k last behind ending (λ told text s v u. refl) c.run_script-in-turn.ensures.same_limits (rw c.in-Ended-3.is at c.in_ok-end-2.ensures.comes) in
    let falls = rw c.in-Ended-2.is at c.in_ok-end.ensures.falls in
    let less = rw c.in-Ended-3.is at c.in_ok-end-2.ensures.falls in
    record {
      place = c.run_script-in-turn.ensures.same_place ∙ c.run_script.ensures.same_place ∙ c.value.ensures.same_place ∙ so_far.place;
      limits = went.within;
      left = went.here;
      spends = omega (arith, less, falls, c.value.ensures.spends, c.in_ok-take_step.ensures.step, so_far.spends);
      turns = so_far.turns;
      goes = went.is ∙ ap (λ j. after_next (End j ending.text last k.variables k.fuel) again) c.in-0-code.is;
    }

pub make_words-word-preserved-in-Some-lent : goal.make_words-word-preserved-in-Some-lent
make_words-word-preserved-in-Some-lent g t c =
    let host = g.H.Host.meaning in
    let old = c.args.self.now in
    let at = c.word.self in
    let inv = c.word.invariant in
    let state = g.H.Host.state c.word.host in
    let level = evaluate host old.limits old.left in
    let word = c.in-Some.word.now in
    let behind = words_of (drop 1 c.word.rest) in
    let smaller = word_smaller c.word.rest word c.in-Some.ensures in
    let size = inv.size in
    let text = c.in-Some-lent.text.now in
    let lent = rw inv.limits at c.in-Some-lent.ensures in
    let pushed : c.push.new.self ≡ c.word.words ++ text ∷ [] = c.in_ok-push.ensures ∙ ap (λ t. c.word.words ++ t ∷ []) c.in_ok-try_clone.ensures in
    rw (c.skip.ensures, pushed) (record {
      place = inv.place;
      limits = inv.limits;
      left = inv.left;
      spends = inv.spends;
      size = omega (arith, smaller, size);
      goes = inv.goes ∙ lent_then old.limits level state at.variables at.fuel host c.word.rest word text c.word.words c.in-Some.ensures lent;
    })

pub make_words-returns-in_err-came-clause-comes : goal.make_words-returns-in_err-came-clause-comes
make_words-returns-in_err-came-clause-comes g t c =
    let host = g.H.Host.meaning in
    let old = c.args.self.now in
    let at = c.word.self in
    let inv = c.word.invariant in
    let state = g.H.Host.state c.word.host in
    let level = evaluate host old.limits old.left in
    let word = c.in-Some.word.now in
    let behind = words_of (drop 1 c.word.rest) in
    let m = c.make_parts.new.self in
    let new = g.H.Host.state c.make_parts.new.host in
    let why = c.in_err-came.field-0.0 in
    let within = c.in_err-came.ensures.same_limits ∙ inv.limits in
    let told : ComesSo host true at.left (parts_do at.limits (evaluate host at.limits at.left) word.parts [] state at.variables at.fuel) (Err why) m new = search rules in
    let came = comes_at host m new true at.limits old.limits at.left old.left (λ l k. parts_do l (evaluate host l k) word.parts [] state at.variables at.fuel) (Err why) inv.limits inv.left told in
    let halts = after_halts host old.limits old.left m new within true c.args.asked _ (word_next old.limits level host word.expand behind c.word.words) why came in
    let goes = inv.goes ∙ word_then old.limits level state at.variables at.fuel host c.word.rest word c.word.words c.in-Some.ensures in
    let whole = comes_from host old.limits old.left m new within c.args.asked _ _ (Err why) goes halts in
    search rules

pub make_words-returns-in-Waits-clause-falls : goal.make_words-returns-in-Waits-clause-falls
make_words-returns-in-Waits-clause-falls g t c =
    let inv = c.word.invariant in
    let word = c.in-Some.word.now in
    let waits = c.in-Waits.waiting.value in
    let more = c.in_ok-before-in-Waits.field-0.value in
    let fell = rw c.in-Waits.is at c.in_ok-came.ensures.falls in
    let weighs = weighs_before more.opens waits.opens waits.frames.items more.frames.items (frame.Command c.word.words word.expand c.skip-in-Some.new.self)
    c.in_ok-before-in-Waits.ensures.0 c.in_ok-before-in-Waits.ensures.1 in
    let smaller = word_smaller c.word.rest word c.in-Some.ensures in
    let behind = ap (λ ws. words_size (words_of ws)) c.skip-in-Some.ensures in
    let size = inv.size in
    let spends = inv.spends in
    let spent = fell.0 in
    (omega (arith, spent, spends), λ same. let weight = fell.1 (omega (arith, spent, spends, same)) in omega (arith, weight, weighs, smaller, behind, size))

pub make_words-returns-in-Waits-clause-comes : goal.make_words-returns-in-Waits-clause-comes
make_words-returns-in-Waits-clause-comes g t c =
    let host = g.H.Host.meaning in
    let old = c.args.self.now in
    let at = c.word.self in
    let inv = c.word.invariant in
    let state = g.H.Host.state c.word.host in
    let level = evaluate host old.limits old.left in
    let word = c.in-Some.word.now in
    let behind = words_of (drop 1 c.word.rest) in
    let m = c.make_parts.new.self in
    let new = g.H.Host.state c.make_parts.new.host in
    let came = c.in_ok-came.ensures in
    let within = came.same_limits ∙ inv.limits in
    let text = parts_do old.limits level word.parts [] state at.variables at.fuel in
    let goes = inv.goes ∙ word_then old.limits level state at.variables at.fuel host c.word.rest word c.word.words c.in-Some.ensures in
    let waits = c.in-Waits.waiting.value in
    let more = c.in_ok-before-in-Waits.field-0.value in
    let told = rw (c.in-Waits.is, inv.limits, inv.left) at came.comes in
    let before = waits_before host old.limits old.left m new within text more.opens waits.opens waits.frames.items more.frames.items
    (frame.Command c.word.words word.expand c.skip-in-Some.new.self) c.in_ok-before-in-Waits.ensures.0 c.in_ok-before-in-Waits.ensures.1 told in
    let here = rw (← c.skip-in-Some.ensures) at goes in
    (here ∙ before.0, before.1)

pub make_words-returns-then-end-ne0-clause-comes : goal.make_words-returns-then-end-ne0-clause-comes
make_words-returns-then-end-ne0-clause-comes g t c =
    let host = g.H.Host.meaning in
    let old = c.args.self.now in
    let at = c.word.self in
    let inv = c.word.invariant in
    let state = g.H.Host.state c.word.host in
    let level = evaluate host old.limits old.left in
    let word = c.in-Some.word.now in
    let behind = words_of (drop 1 c.word.rest) in
    let m = c.make_parts.new.self in
    let new = g.H.Host.state c.make_parts.new.host in
    let came = c.in_ok-came.ensures in
    let within = came.same_limits ∙ inv.limits in
    let text = parts_do old.limits level word.parts [] state at.variables at.fuel in
    let goes = inv.goes ∙ word_then old.limits level state at.variables at.fuel host c.word.rest word c.word.words c.in-Some.ensures in
    let end = c.in-Ended.end in
    let told = rw (c.in-Ended.is, inv.limits, inv.left) at came.comes in
    let other : (end.code == 0) ≡ false = search rules in
    let next = word_next old.limits level host word.expand behind c.word.words in
    (ends_as c.args.asked _ end new m.variables m.fuel (goes ∙ ap (λ o. after o next) told.0 ∙ after_other end.code end.text new m.variables m.fuel next other), told.1)

pub make_words-word-preserved : goal.make_words-word-preserved
make_words-word-preserved g t c =
    let host = g.H.Host.meaning in
    let old = c.args.self.now in
    let at = c.word.self in
    let inv = c.word.invariant in
    let state = g.H.Host.state c.word.host in
    let level = evaluate host old.limits old.left in
    let word = c.in-Some.word.now in
    let behind = words_of (drop 1 c.word.rest) in
    let m = c.make_parts.new.self in
    let new = g.H.Host.state c.make_parts.new.host in
    let came = c.in_ok-came.ensures in
    let within = came.same_limits ∙ inv.limits in
    let text = parts_do old.limits level word.parts [] state at.variables at.fuel in
    let goes = inv.goes ∙ word_then old.limits level state at.variables at.fuel host c.word.rest word c.word.words c.in-Some.ensures in
    let end = c.in-Ended.end in
    let told = rw (c.in-Ended.is, inv.limits, inv.left) at came.comes in
    let zero : end.code ≡ 0 = search rules in
    let next = word_next old.limits level host word.expand behind c.word.words in
    let fell = rw c.in-Ended.is at came.falls in
    let smaller = word_smaller c.word.rest word c.in-Some.ensures in
    let size = inv.size in
    let spends = inv.spends in
    rw c.skip-in-Some.ensures (record {
      place = came.same_place ∙ inv.place;
      limits = within;
      left = told.1;
      spends = omega (arith, fell, spends);
      size = omega (arith, smaller, size);
      goes = goes ∙ ap (λ o. after o next) told.0 ∙ ap (λ k. after (End k end.text new m.variables m.fuel) next) zero
          ∙ sym (given_after old.limits new m.variables m.fuel (words_in word.expand end.text) (λ more. Ok (c.word.words ++ more)) (λ words. words_do host old.limits level behind words new m.variables m.fuel))
          ∙ ap (λ r. given old.limits r new m.variables m.fuel (λ words. words_do host old.limits level behind words new m.variables m.fuel)) c.in_ok-add_words-in-Ended.ensures;
    })

pub make_words-returns-in_err-add_words-in-Ended-clause-comes : goal.make_words-returns-in_err-add_words-in-Ended-clause-comes
make_words-returns-in_err-add_words-in-Ended-clause-comes g t c =
    let host = g.H.Host.meaning in
    let old = c.args.self.now in
    let at = c.word.self in
    let inv = c.word.invariant in
    let state = g.H.Host.state c.word.host in
    let level = evaluate host old.limits old.left in
    let word = c.in-Some.word.now in
    let behind = words_of (drop 1 c.word.rest) in
    let m = c.make_parts.new.self in
    let new = g.H.Host.state c.make_parts.new.host in
    let came = c.in_ok-came.ensures in
    let within = came.same_limits ∙ inv.limits in
    let text = parts_do old.limits level word.parts [] state at.variables at.fuel in
    let goes = inv.goes ∙ word_then old.limits level state at.variables at.fuel host c.word.rest word c.word.words c.in-Some.ensures in
    let end = c.in-Ended.end in
    let told = rw (c.in-Ended.is, inv.limits, inv.left) at came.comes in
    let zero : end.code ≡ 0 = search rules in
    let next = word_next old.limits level host word.expand behind c.word.words in
    let why = c.in_err-add_words-in-Ended.field-0.0 in
    let value = tcl.after (words_in word.expand end.text) (λ more. Ok (c.word.words ++ more)) in
    let then = goes ∙ ap (λ o. after o next) told.0 ∙ ap (λ k. after (End k end.text new m.variables m.fuel) next) zero
    ∙ sym (given_after old.limits new m.variables m.fuel (words_in word.expand end.text) (λ more. Ok (c.word.words ++ more)) (λ words. words_do host old.limits level behind words new m.variables m.fuel)) in
    let halts = given_halts host old.limits old.left m new within told.1 c.args.asked value (λ words. words_do host old.limits level behind words new m.variables m.fuel) why c.in_err-add_words-in-Ended.ensures in
    let whole = comes_from host old.limits old.left m new within c.args.asked _ _ (Err (halt_of_interrupt why)) then halts in
    search rules

pub make_words-returns-clause-comes : goal.make_words-returns-clause-comes
make_words-returns-clause-comes g t c =
    let host = g.H.Host.meaning in
    let old = c.args.self.now in
    let at = c.word.self in
    let inv = c.word.invariant in
    let state = g.H.Host.state c.word.host in
    let level = evaluate host old.limits old.left in
    let m = c.do_command-came.new.self in
    let new = g.H.Host.state c.do_command-came.new.host in
    let told = rw c.as_slice.ensures at c.do_command-came.ensures.comes in
    let came = comes_at host m new c.args.asked at.limits old.limits at.left old.left (λ l k. call host l (evaluate host l k) c.word.words state at.variables at.fuel) c.do_command-came.result inv.limits inv.left told in
    let goes = inv.goes ∙ words_then old.limits level state at.variables at.fuel host c.word.rest c.word.words c.in_default.ensures in
    comes_from host old.limits old.left m new (c.do_command-came.ensures.same_limits ∙ inv.limits) c.args.asked _ _ c.do_command-came.result goes came

pub next_branches-returns-in_err-value-clause-comes : goal.next_branches-returns-in_err-value-clause-comes
next_branches-returns-in_err-value-clause-comes g t c =
    let host = g.H.Host.meaning in
    let first = c.args.self.now in
    let old = c.test.self in
    let new = c.take_step.new.self in
    let m = c.value.new.self in
    let so_far = c.test.invariant in
    let late = g.H.Host.state c.value.new.host in
    let test = c.in-Some.test in
    let otherwise = c.args.branches.otherwise in
    let tests = branches_begin host first otherwise c.test.tests c.next.new.self test c.test-in-Some.inside.condition (g.H.Host.state c.test.host) old new c.in_ok-items.items
    (record { is = so_far.goes; within = so_far.limits; here = so_far.left }) c.in-Some.ensures
    c.in_ok-take_step.ensures.step c.in_ok-take_step.ensures.kept (ap (λ (t : Test). t.condition) c.test-in-Some.view_is) c.in_ok-items.ensures in
    let halts = value_halts host m late tests c.args.asked c.in_err-value.field-0.0 c.in_err-value.ensures.comes in
    search rules

pub next_branches-returns-in_err-holds-in-Value-clause-comes : goal.next_branches-returns-in_err-holds-in-Value-clause-comes
next_branches-returns-in_err-holds-in-Value-clause-comes g t c =
    let host = g.H.Host.meaning in
    let first = c.args.self.now in
    let old = c.test.self in
    let new = c.take_step.new.self in
    let m = c.value.new.self in
    let so_far = c.test.invariant in
    let late = g.H.Host.state c.value.new.host in
    let test = c.in-Some.test in
    let otherwise = c.args.branches.otherwise in
    let tests = branches_begin host first otherwise c.test.tests c.next.new.self test c.test-in-Some.inside.condition (g.H.Host.state c.test.host) old new c.in_ok-items.items
    (record { is = so_far.goes; within = so_far.limits; here = so_far.left }) c.in-Some.ensures
    c.in_ok-take_step.ensures.step c.in_ok-take_step.ensures.kept (ap (λ (t : Test). t.condition) c.test-in-Some.view_is) c.in_ok-items.ensures in
    let comes = rw c.in-Value.is at c.in_ok-value.ensures.comes in
    let halts = truth_halts host m late tests c.args.asked c.in-Value.value c.in_err-holds-in-Value.field-0.0 c.value.ensures.same_limits comes c.in_err-holds-in-Value.ensures in
    search rules

pub next_branches-returns-then-branch-clause-comes : goal.next_branches-returns-then-branch-clause-comes
next_branches-returns-then-branch-clause-comes g t c =
    let host = g.H.Host.meaning in
    let first = c.args.self.now in
    let old = c.test.self in
    let new = c.take_step.new.self in
    let m = c.value.new.self in
    let so_far = c.test.invariant in
    let late = g.H.Host.state c.value.new.host in
    let test = c.in-Some.test in
    let otherwise = c.args.branches.otherwise in
    let tests = branches_begin host first otherwise c.test.tests c.next.new.self test c.test-in-Some.inside.condition (g.H.Host.state c.test.host) old new c.in_ok-items.items
    (record { is = so_far.goes; within = so_far.limits; here = so_far.left }) c.in-Some.ensures
    c.in_ok-take_step.ensures.step c.in_ok-take_step.ensures.kept (ap (λ (t : Test). t.condition) c.test-in-Some.view_is) c.in_ok-items.ensures in
    let comes = rw c.in-Value.is at c.in_ok-value.ensures.comes in
    let holds = value_holds host m late tests c.in-Value.value true c.value.ensures.same_limits comes (search rules) in
    let body : c.test-in-Some.inside.body ≡ test.body = ap (λ (t : Test). t.body) c.test-in-Some.view_is in
    goes_on host first c.args.asked (λ limits inner. inner (script_of test.body)) m c.run_body.new.self late (g.H.Host.state c.run_body.new.host) c.run_body.result holds (rw body at c.run_body.ensures.comes)

pub next_branches-returns-in-Ended-clause-comes : goal.next_branches-returns-in-Ended-clause-comes
next_branches-returns-in-Ended-clause-comes g t c =
    let host = g.H.Host.meaning in
    let first = c.args.self.now in
    let old = c.test.self in
    let new = c.take_step.new.self in
    let m = c.value.new.self in
    let so_far = c.test.invariant in
    let late = g.H.Host.state c.value.new.host in
    let test = c.in-Some.test in
    let otherwise = c.args.branches.otherwise in
    let tests = branches_begin host first otherwise c.test.tests c.next.new.self test c.test-in-Some.inside.condition (g.H.Host.state c.test.host) old new c.in_ok-items.items
    (record { is = so_far.goes; within = so_far.limits; here = so_far.left }) c.in-Some.ensures
    c.in_ok-take_step.ensures.step c.in_ok-take_step.ensures.kept (ap (λ (t : Test). t.condition) c.test-in-Some.view_is) c.in_ok-items.ensures in
    let ends = value_ends host m late tests c.in-Ended.end c.value.ensures.same_limits (rw c.in-Ended.is at c.in_ok-value.ensures.comes) in
    (ends_as c.args.asked _ c.in-Ended.end late m.variables m.fuel ends.is, ends.here)

pub next_branches-returns-in-Waits-clause-comes : goal.next_branches-returns-in-Waits-clause-comes
next_branches-returns-in-Waits-clause-comes g t c =
    let host = g.H.Host.meaning in
    let first = c.args.self.now in
    let old = c.test.self in
    let new = c.take_step.new.self in
    let m = c.value.new.self in
    let so_far = c.test.invariant in
    let late = g.H.Host.state c.value.new.host in
    let test = c.in-Some.test in
    let otherwise = c.args.branches.otherwise in
    let tests = branches_begin host first otherwise c.test.tests c.next.new.self test c.test-in-Some.inside.condition (g.H.Host.state c.test.host) old new c.in_ok-items.items
    (record { is = so_far.goes; within = so_far.limits; here = so_far.left }) c.in-Some.ensures
    c.in_ok-take_step.ensures.step c.in_ok-take_step.ensures.kept (ap (λ (t : Test). t.condition) c.test-in-Some.view_is) c.in_ok-items.ensures in
    let body : c.test-in-Some.inside.body ≡ test.body = ap (λ (t : Test). t.body) c.test-in-Some.view_is in
    let rest : Branches = record { tests = c.next.new.self; otherwise = otherwise } in
    let before = rw (so_far.otherwise, body) at c.in_ok-before-in-Waits.ensures in
    value_waits host m late tests c.in-Waits.waiting.value c.in_ok-before-in-Waits.field-0.value (frame.Branch test.body rest) c.value.ensures.same_limits (λ outcome. refl)
    before (rw c.in-Waits.is at c.in_ok-value.ensures.comes)

pub next_branches-test-preserved : goal.next_branches-test-preserved
next_branches-test-preserved g t c =
    let host = g.H.Host.meaning in
    let first = c.args.self.now in
    let old = c.test.self in
    let new = c.take_step.new.self in
    let m = c.value.new.self in
    let so_far = c.test.invariant in
    let late = g.H.Host.state c.value.new.host in
    let test = c.in-Some.test in
    let otherwise = c.args.branches.otherwise in
    let tests = branches_begin host first otherwise c.test.tests c.next.new.self test c.test-in-Some.inside.condition (g.H.Host.state c.test.host) old new c.in_ok-items.items
    (record { is = so_far.goes; within = so_far.limits; here = so_far.left }) c.in-Some.ensures
    c.in_ok-take_step.ensures.step c.in_ok-take_step.ensures.kept (ap (λ (t : Test). t.condition) c.test-in-Some.view_is) c.in_ok-items.ensures in
    let comes = rw c.in-Value.is at c.in_ok-value.ensures.comes in
    let fails = value_holds host m late tests c.in-Value.value false c.value.ensures.same_limits comes (search rules) in
    let spends : c.value.new.self.fuel < c.args.self.now.fuel = omega (arith, c.value.ensures.spends, c.in_ok-take_step.ensures.step, so_far.spends) in
    record {
      place = c.value.ensures.same_place ∙ so_far.place;
      limits = fails.within;
      left = fails.here;
      spends = omega (arith, spends);
      otherwise = so_far.otherwise;
      took = inr spends;
      goes = fails.is;
    }

pub next_elements-returns-in-Waits-clause-comes : goal.next_elements-returns-in-Waits-clause-comes
next_elements-returns-in-Waits-clause-comes g t c =
    let host = g.H.Host.meaning in
    let first = c.args.self.now in
    let name = c.args.name in
    let body = c.args.body in
    let items = c.next.new.self in
    let so_far = c.element.invariant in
    let runs = each_begins host first name body c.in-Some.element c.element.elements items c.in_ok-script.script (g.H.Host.state c.element.host) c.element.self c.take_step.new.self
    (c.in_ok-store.field-0, c.store.new.variables) (record { is = so_far.goes; within = so_far.limits; here = so_far.left }) c.in-Some.ensures
    c.in_ok-take_step.ensures.step c.in_ok-take_step.ensures.kept c.in_ok-store.ensures.value c.in_ok-script.ensures in
    script_waits host c.run_script.new.self (g.H.Host.state c.run_script.new.host) runs c.in-Waits.waiting.value c.in_ok-before-in-Waits.field-0.value (frame.Each name body items)
    c.run_script.ensures.same_limits (λ outcome. refl) c.in_ok-before-in-Waits.ensures (rw c.in-Waits.is at c.in_ok-end.ensures.comes)

pub next_scripts-returns-in-Waits-clause-comes : goal.next_scripts-returns-in-Waits-clause-comes
next_scripts-returns-in-Waits-clause-comes g t c =
    let host = g.H.Host.meaning in
    let old = c.args.self.now in
    let m = c.script.self in
    let n = c.take_step.new.self in
    let state = g.H.Host.state c.script.host in
    let text = c.in-Some.script in
    let rest = c.next.new.self in
    let pushed = c.push_global.new.self in
    let script = c.in_ok-script.script in
    let w = c.in-Waits.waiting.value in
    let more = c.in_ok-before-in-Waits.field-0.value in
    let kept = c.in_ok-take_step.ensures.kept in
    let within = ap (λ m. m.limits) kept ∙ c.script.invariant.limits in
    let here = ap (λ m. m.left) kept ∙ c.script.invariant.left in
    let first : c.script.scripts ≡ text ∷ rest = search rules in
    let alive : host.alive state c.args.window ≡ true = search rules in
    let push : pushed ≡ pushed_global m.variables = c.in_ok-push_global.ensures.ok ∙ ap (λ m. pushed_global m.variables) kept in
    let goes = ap (λ ss. done_by (scripts_do host (level_of host old) c.args.window ss) state m) first
    ∙ script_goes host old.limits old.left c.args.window state m.variables pushed m.fuel text rest script n alive c.in_ok-take_step.ensures.step within here push c.in_ok-script.ensures in
    let comes = rw c.in-Waits.is at c.in_ok-waiting.ensures.comes in
    let waits = waits_before host old.limits old.left c.run_script.new.self (g.H.Host.state c.run_script.new.host) (c.in_ok-waiting.ensures.same_limits ∙ within)
    (evaluate host n.limits n.left script state pushed n.fuel)
    more.opens w.opens w.frames.items more.frames.items (frame.Scripts c.args.window rest) c.in_ok-before-in-Waits.ensures.0 c.in_ok-before-in-Waits.ensures.1 (comes.0, comes.1 ∙ here) in
    (c.script.invariant.goes ∙ goes ∙ waits.0, waits.1)

pub next_things-returns-in_err-plan-clause-comes : goal.next_things-returns-in_err-plan-clause-comes
next_things-returns-in_err-plan-clause-comes g t c =
    let old = c.args.self.now in
    let m = c.thing.self in
    let why = c.in_err-plan.field-0.0 in
    let stops = taking_stops g.H.Host.meaning old.limits old.left c.args.due (g.H.Host.state c.thing.host) m.variables m.fuel (g.H.Host.state c.next.new.self) why c.in_err-plan.ensures.takes in
    let all = subst (λ o. StopsSo o why) (sym c.thing.invariant.goes) stops in
    search rules

pub next_things-returns-in_err-waiting-2-clause-comes : goal.next_things-returns-in_err-waiting-2-clause-comes
next_things-returns-in_err-waiting-2-clause-comes g t c =
    let host = g.H.Host.meaning in
    let old = c.args.self.now in
    let m = c.thing.self in
    let n = c.take_step.new.self in
    let p = c.in-Some.plan in
    let state = g.H.Host.state c.next.new.self in
    let why = c.in_err-waiting-2.field-0.0 in
    let taken : host.next c.args.due (g.H.Host.state c.thing.host) ≡ Takes p state = rw c.in-Some.is at c.in_ok-plan.ensures.takes in
    let kept = c.in_ok-take_step.ensures.kept in
    let goes = thing_goes host old.limits old.left c.args.due (g.H.Host.state c.thing.host) m.variables m.fuel p state n taken c.in_ok-take_step.ensures.step
    (ap (λ m. m.limits) kept ∙ c.thing.invariant.limits) (ap (λ m. m.left) kept ∙ c.thing.invariant.left) (ap (λ m. m.variables) kept) in
    let again = update_at host old.limits old.left c.args.due in
    let stops = passes (λ o. caught o (λ code text. again)) (λ why. refl) (done_by (thing_does host n.limits (level_of host n) p) state n) why c.in_err-waiting-2.ensures.comes in
    let all = subst (λ o. StopsSo o why) (sym (c.thing.invariant.goes ∙ goes)) stops in
    search rules

pub next_things-returns-in-Waits-clause-comes : goal.next_things-returns-in-Waits-clause-comes
next_things-returns-in-Waits-clause-comes g t c =
    let host = g.H.Host.meaning in
    let old = c.args.self.now in
    let m = c.thing.self in
    let n = c.take_step.new.self in
    let p = c.in-Some.plan in
    let state = g.H.Host.state c.next.new.self in
    let w = c.in-Waits.waiting.value in
    let more = c.in_ok-before.field-0.value in
    let taken : host.next c.args.due (g.H.Host.state c.thing.host) ≡ Takes p state = rw c.in-Some.is at c.in_ok-plan.ensures.takes in
    let kept = c.in_ok-take_step.ensures.kept in
    let within = ap (λ m. m.limits) kept ∙ c.thing.invariant.limits in
    let here = ap (λ m. m.left) kept ∙ c.thing.invariant.left in
    let goes = thing_goes host old.limits old.left c.args.due (g.H.Host.state c.thing.host) m.variables m.fuel p state n taken c.in_ok-take_step.ensures.step within here (ap (λ m. m.variables) kept) in
    let comes = rw c.in-Waits.is at c.in_ok-waiting-2.ensures.comes in
    let waits = waits_before host old.limits old.left c.do_thing.new.self (g.H.Host.state c.do_thing.new.host) (c.in_ok-waiting-2.ensures.same_limits ∙ within) (done_by (thing_does host n.limits (level_of host n) p) state n)
    more.opens w.opens w.frames.items more.frames.items (frame.Update c.args.due) c.in_ok-before.ensures.0 c.in_ok-before.ensures.1 (comes.0, comes.1 ∙ here) in
    (c.thing.invariant.goes ∙ goes ∙ waits.0, waits.1)

pub next_things-thing-preserved-in_default-2 : goal.next_things-thing-preserved-in_default-2
next_things-thing-preserved-in_default-2 g t c =
    let host = g.H.Host.meaning in
    let old = c.args.self.now in
    let m = c.thing.self in
    let n = c.take_step.new.self in
    let p = c.in-Some.plan in
    let state = g.H.Host.state c.next.new.self in
    let taken : host.next c.args.due (g.H.Host.state c.thing.host) ≡ Takes p state = rw c.in-Some.is at c.in_ok-plan.ensures.takes in
    let kept = c.in_ok-take_step.ensures.kept in
    let step = c.in_ok-take_step.ensures.step in
    let within = ap (λ m. m.limits) kept ∙ c.thing.invariant.limits in
    let here = ap (λ m. m.left) kept ∙ c.thing.invariant.left in
    let goes = thing_goes host old.limits old.left c.args.due (g.H.Host.state c.thing.host) m.variables m.fuel p state n taken step within here (ap (λ m. m.variables) kept) in
    let comes = rw c.in_default-2.is at c.in_ok-waiting-2.ensures.comes in
    let again = update_at host old.limits old.left c.args.due in
    record {
      place = c.in_ok-waiting-2.ensures.same_place ∙ c.in_ok-plan.ensures.same_place ∙ c.thing.invariant.place;
      limits = c.in_ok-waiting-2.ensures.same_limits ∙ within;
      left = comes.1 ∙ here;
      spends = omega (arith, c.in_ok-waiting-2.ensures.spends, step, c.thing.invariant.spends);
      goes = c.thing.invariant.goes ∙ goes ∙ ap (λ o. caught o (λ code text. again)) comes.0;
    }

pub next_things-returns-clause-comes : goal.next_things-returns-clause-comes
next_things-returns-clause-comes g t c =
    let old = c.args.self.now in
    let m = c.thing.self in
    let none = rw c.in_default.is at c.in_ok-plan.ensures.takes in
    rw c.silent.ensures (c.thing.invariant.goes ∙ nothing_goes g.H.Host.meaning old.limits old.left c.args.due (g.H.Host.state c.thing.host) m.variables m.fuel (g.H.Host.state c.next.new.self) none, c.thing.invariant.left)

pub run_catch-returns-clause-comes : goal.run_catch-returns-clause-comes
run_catch-returns-clause-comes g t c =
    let host = g.H.Host.meaning in
    let old = c.args.self.now in
    let new = c.run_script.new.self in
    let inner = level_of host old in
    let state = g.H.Host.state c.args.host.now in
    let script = c.in_ok-script.script in
    let text = c.if-words-lt2.name.0.now in
    let name = c.if-words-lt2.name.1 in
    let w = c.in-Waits.waiting.value in
    let more = c.in_ok-before-in-Waits.field-0.value in
    let goes : catch_does old.limits inner c.args.command.now c.args.words.now state old.variables old.fuel ≡ caught (inner (script_of text) state old.variables old.fuel) (catch_ends old.limits name) =
    elim c.if-words-lt2.branch [
      | run_catch-in-len1 w ↦ search rules
      | run_catch-in-len2+in_ok-try_clone-in-len2 w ↦
          let x = w.script-item-then-words-lt3.result in
          let y = w.in_ok-try_clone-in-len2.field-0 in
          let first : get_or c.args.words.now 0 x ≡ x = search rules in
          let second : get_or c.args.words.now 1 y ≡ y = search rules in
          rw w.name-is (ap (λ ws. catch_does old.limits inner c.args.command.now ws state old.variables old.fuel) (two_are c.args.words.now x y w.in-len2.len_at_least w.in-len2.len_below first second))
    ] in
    let comes = rw c.in-Waits.is at c.in_ok-end.ensures.comes in
    let waits = waits_before host old.limits old.left new (g.H.Host.state c.run_script.new.host) c.in_ok-end.ensures.same_limits (inner script state old.variables old.fuel)
    more.opens w.opens w.frames.items more.frames.items (frame.Catch name) c.in_ok-before-in-Waits.ensures.0 c.in_ok-before-in-Waits.ensures.1 comes in
    (goes ∙ ap (λ s. caught (inner s state old.variables old.fuel) (catch_ends old.limits name)) (sym c.in_ok-script.ensures) ∙ waits.0, waits.1)

pub run_command-returns-then-not-all_fit-clause-comes : goal.run_command-returns-then-not-all_fit-clause-comes
run_command-returns-then-not-all_fit-clause-comes g t c =
    let host = g.H.Host.meaning in
    let old = c.args.self.now in
    let state = g.H.Host.state c.args.host.now in
    let level = evaluate host old.limits old.left in
    let texts = c.in-Ready.words.value.items in
    let none : list_all (λ t. fits old.limits t) texts ≡ false = search rules in
    ap (λ k. words_do host old.limits level (words_of_command k) [] state old.variables old.fuel) c.in-Ready.is
    ∙ ready_do host old.limits level state old.variables old.fuel texts
    ∙ ap (λ b. cond b (call host old.limits level texts state old.variables old.fuel) (Stopped TooLarge)) none

pub run_command-returns-in_ok-clone-in-Made-clause-comes :
    goal.run_command-returns-in_ok-clone-in-Made-clause-comes
run_command-returns-in_ok-clone-in-Made-clause-comes g t c =
    let host = g.H.Host.meaning in
    let old = c.args.self.now in
    let state = g.H.Host.state c.args.host.now in
    let level = evaluate host old.limits old.left in
    let m = c.make_words.new.self in
    let new = g.H.Host.state c.make_words.new.host in
    let at = c.if-self-ne0.self in
    let kept : at ≡ old = search rules in
    let told : ComesSo host c.args.asked at.left (words_do host at.limits (evaluate host at.limits at.left) (words_of c.in-Made.words.value.items) [] state at.variables at.fuel) c.make_words.result m new = search rules in
    let came = subst (λ k. ComesSo host c.args.asked k.left (words_do host k.limits (evaluate host k.limits k.left) (words_of c.in-Made.words.value.items) [] state k.variables k.fuel) c.make_words.result m new) kept told in
    let same = ap (λ k. words_do host old.limits level (words_of_command k) [] state old.variables old.fuel) c.in-Made.is in
    subst (λ o. ComesSo host c.args.asked old.left o c.make_words.result m new) (sym same) came

pub run_command-returns-in-Some-clause-comes : goal.run_command-returns-in-Some-clause-comes
run_command-returns-in-Some-clause-comes g t c =
    let host = g.H.Host.meaning in
    let old = c.args.self.now in
    let state = g.H.Host.state c.args.host.now in
    let level = evaluate host old.limits old.left in
    let end = c.in-Some.end in
    let answers : AnswersWords old.limits old.variables (words_of c.in-Made.words.value.items) end.code end.text = search rules in
    let less = old.fuel - 1 in
    let some : old.fuel ≡ suc less = search rules in
    let kept : c.answer_at_once-end.new.variables ≡ old.variables = search rules in
    let does = ap (λ k. words_do host old.limits level (words_of_command k) [] state old.variables old.fuel) c.in-Made.is
    ∙ ap (λ f. words_do host old.limits level (words_of c.in-Made.words.value.items) [] state old.variables f) some
    ∙ words_answer host old.limits level state old.variables less (words_of c.in-Made.words.value.items) end.code end.text answers in
    rw kept (ends_as c.args.asked (words_do host old.limits level (words_of_command c.args.command.now) [] state old.variables old.fuel) end state old.variables less does, refl)

pub run_command-returns-else-not-all_fit-clause-comes : goal.run_command-returns-else-not-all_fit-clause-comes
run_command-returns-else-not-all_fit-clause-comes g t c =
    let host = g.H.Host.meaning in
    let old = c.args.self.now in
    let state = g.H.Host.state c.args.host.now in
    let level = evaluate host old.limits old.left in
    let texts = c.in-Ready.words.value.items in
    let m = c.do_command.new.self in
    let new = g.H.Host.state c.do_command.new.host in
    let all : list_all (λ t. fits old.limits t) texts ≡ true = search rules in
    let told : ComesSo host c.args.asked old.left (call host old.limits level texts state old.variables old.fuel) c.do_command.result m new = search rules in
    let same = ap (λ k. words_do host old.limits level (words_of_command k) [] state old.variables old.fuel) c.in-Ready.is
    ∙ ready_do host old.limits level state old.variables old.fuel texts
    ∙ ap (λ b. cond b (call host old.limits level texts state old.variables old.fuel) (Stopped TooLarge)) all in
    subst (λ o. ComesSo host c.args.asked old.left o c.do_command.result m new) (sym same) told

pub run_commands-command-preserved : goal.run_commands-command-preserved
run_commands-command-preserved g t c =
    let host = g.H.Host.meaning in
    let old = c.args.self.now in
    let at = c.command.self in
    let inv = c.command.invariant in
    let state = g.H.Host.state c.command.host in
    let level = evaluate host old.limits old.left in
    let rest = c.command.rest in
    let words = words_of_command c.in-Some.command.now in
    let first : first_words rest ≡ Some words = sym c.first.ensures ∙ ap (option_map (λ k. words_of_command k.now)) c.in-Some.is in
    let none : c.command.end.code ≡ 0 = search rules in
    let whole = after (End c.args.end.code c.args.end.text (g.H.Host.state c.args.host.now) old.variables old.fuel) (commands_do host old.limits level c.args.rest) in
    let does = words_do host old.limits level words [] state at.variables at.fuel in
    let then = goes_first host old.limits level c.args.asked whole c.command.end state at.variables at.fuel rest words first none inv.goes in
    let m = c.run_command-came.new.self in
    let new = g.H.Host.state c.run_command-came.new.host in
    let given = c.if-asked.asked in
    let comes = comes_at host m new given at.limits old.limits at.left old.left (λ l k. words_do host l (evaluate host l k) words [] state at.variables at.fuel) c.run_command-came.result inv.limits inv.left c.run_command-came.ensures.comes in
    let next = c.in-Ended.next in
    let told = rw c.in-Ended.is at c.in_ok-next.ensures in
    let ends = told_runs host given old.left does m new c.run_command-came.result (Ok (came.Ended next)) told comes in
    let fell = told_falls m.limits c.run_command-came.result (Ok (came.Ended next)) (4 * words_size words) at.fuel m.fuel told c.run_command-came.ensures.falls in
    let more : c.args.asked ≡ true → given ≡ false → behind rest ≡ no_command → ⊥ = search rules in
    let smaller = behind_smaller rest words first in
    let size = inv.size in
    let spends = inv.spends in
    rw c.skip.ensures (record {
      place = c.run_command-came.ensures.same_place ∙ inv.place;
      limits = c.run_command-came.ensures.same_limits ∙ inv.limits;
      left = ends.1;
      spends = omega (arith, fell, spends);
      size = omega (arith, smaller, size);
      goes = script_goes_on host old.limits level c.args.asked whole next new m.variables m.fuel given does (behind rest) more then ends.0;
    })

pub run_commands-returns-in_err-next-clause-comes : goal.run_commands-returns-in_err-next-clause-comes
run_commands-returns-in_err-next-clause-comes g t c =
    let host = g.H.Host.meaning in
    let old = c.args.self.now in
    let at = c.command.self in
    let inv = c.command.invariant in
    let state = g.H.Host.state c.command.host in
    let level = evaluate host old.limits old.left in
    let rest = c.command.rest in
    let words = words_of_command c.in-Some.command.now in
    let first : first_words rest ≡ Some words = sym c.first.ensures ∙ ap (option_map (λ k. words_of_command k.now)) c.in-Some.is in
    let none : c.command.end.code ≡ 0 = search rules in
    let whole = after (End c.args.end.code c.args.end.text (g.H.Host.state c.args.host.now) old.variables old.fuel) (commands_do host old.limits level c.args.rest) in
    let does = words_do host old.limits level words [] state at.variables at.fuel in
    let then = goes_first host old.limits level c.args.asked whole c.command.end state at.variables at.fuel rest words first none inv.goes in
    let m = c.run_command-came.new.self in
    let new = g.H.Host.state c.run_command-came.new.host in
    let given = c.if-asked.asked in
    let comes = comes_at host m new given at.limits old.limits at.left old.left (λ l k. words_do host l (evaluate host l k) words [] state at.variables at.fuel) c.run_command-came.result inv.limits inv.left c.run_command-came.ensures.comes in
    let why = c.in_err-next.field-0.0 in
    let stops = told_runs host given old.left does m new c.run_command-came.result (Err why) c.in_err-next.ensures comes in
    let all : StopsSo whole why = subst (λ o. StopsSo o why) (sym then) (passes (λ o. after o (commands_do host old.limits level (behind rest))) (λ why. refl) does why stops) in
    search rules

pub run_commands-returns-in-Waits-clause-falls : goal.run_commands-returns-in-Waits-clause-falls
run_commands-returns-in-Waits-clause-falls g t c =
    let inv = c.command.invariant in
    let at = c.command.self in
    let rest = c.command.rest in
    let words = words_of_command c.in-Some.command.now in
    let first : first_words rest ≡ Some words = sym c.first.ensures ∙ ap (option_map (λ k. words_of_command k.now)) c.in-Some.is in
    let m = c.run_command-came.new.self in
    let waits = c.in-Waits.waiting.value in
    let more = c.in_ok-before-in-Waits.field-0.value in
    let told = rw c.in-Waits.is at c.in_ok-next.ensures in
    let fell = told_falls m.limits c.run_command-came.result (Ok (came.Waits c.in-Waits.waiting)) (4 * words_size words) at.fuel m.fuel told c.run_command-came.ensures.falls in
    let weighs = weighs_before more.opens waits.opens waits.frames.items more.frames.items (frame.Commands c.skip.new.self c.args.levels)
    c.in_ok-before-in-Waits.ensures.0 c.in_ok-before-in-Waits.ensures.1 in
    let smaller = behind_smaller rest words first in
    let left = ap script_size c.skip.ensures in
    let size = inv.size in
    let spends = inv.spends in
    let spent = fell.0 in
    (omega (arith, spent, spends), λ same. let weight = fell.1 (omega (arith, spent, spends, same)) in omega (arith, weight, weighs, smaller, left, size))

pub run_commands-returns-in-Waits-clause-comes : goal.run_commands-returns-in-Waits-clause-comes
run_commands-returns-in-Waits-clause-comes g t c =
    let host = g.H.Host.meaning in
    let old = c.args.self.now in
    let at = c.command.self in
    let inv = c.command.invariant in
    let state = g.H.Host.state c.command.host in
    let level = evaluate host old.limits old.left in
    let rest = c.command.rest in
    let words = words_of_command c.in-Some.command.now in
    let first : first_words rest ≡ Some words = sym c.first.ensures ∙ ap (option_map (λ k. words_of_command k.now)) c.in-Some.is in
    let none : c.command.end.code ≡ 0 = search rules in
    let whole = after (End c.args.end.code c.args.end.text (g.H.Host.state c.args.host.now) old.variables old.fuel) (commands_do host old.limits level c.args.rest) in
    let does = words_do host old.limits level words [] state at.variables at.fuel in
    let then = goes_first host old.limits level c.args.asked whole c.command.end state at.variables at.fuel rest words first none inv.goes in
    let m = c.run_command-came.new.self in
    let new = g.H.Host.state c.run_command-came.new.host in
    let given = c.if-asked.asked in
    let comes = comes_at host m new given at.limits old.limits at.left old.left (λ l k. words_do host l (evaluate host l k) words [] state at.variables at.fuel) c.run_command-came.result inv.limits inv.left c.run_command-came.ensures.comes in
    let waiting = c.in-Waits.waiting in
    let more = c.in_ok-before-in-Waits.field-0.value in
    let told = rw c.in-Waits.is at c.in_ok-next.ensures in
    let waits = told_runs host given old.left does m new c.run_command-came.result (Ok (came.Waits waiting)) told comes in
    let before = waits_before host old.limits old.left m new (c.run_command-came.ensures.same_limits ∙ inv.limits) does more.opens waiting.value.opens waiting.value.frames.items more.frames.items
    (frame.Commands c.skip.new.self c.args.levels) c.in_ok-before-in-Waits.ensures.0 c.in_ok-before-in-Waits.ensures.1 waits in
    let here = rw (← c.skip.ensures) at then in
    (here ∙ before.0, before.1)

pub run_expression-returns-in_err-value-clause-comes : goal.run_expression-returns-in_err-value-clause-comes
run_expression-returns-in_err-value-clause-comes g t c =
    let host = g.H.Host.meaning in
    let old = c.args.self.now in
    let new = c.value.new.self in
    let inner = level_of host old in
    let state = g.H.Host.state c.value.new.host in
    let items = c.in_ok-items.items in
    let why = c.in_err-value.field-0.0 in
    let within = c.in_err-value.ensures.same_limits in
    let told = ap (result_told old.limits) (expression_goes old.limits inner (g.H.Host.state c.args.host.now) old.variables old.fuel c.args.text.now items c.in_ok-items.ensures) in
    let halts = valued_halts host old.limits old.left new state within true (done_by (items_go old.limits inner items []) (g.H.Host.state c.args.host.now) old)
    (λ text state variables fuel. given old.limits (value_or_fault (result_of text)) state variables fuel (λ result. End 0 result state variables fuel)) why c.in_err-value.ensures.comes in
    let all = comes_from host old.limits old.left new state within true _ _ (Err why) told halts in
    search rules

pub run_expression-returns-in_err-into_result-in-Value-clause-comes : goal.run_expression-returns-in_err-into_result-in-Value-clause-comes
run_expression-returns-in_err-into_result-in-Value-clause-comes g t c =
    let host = g.H.Host.meaning in
    let old = c.args.self.now in
    let new = c.value.new.self in
    let inner = level_of host old in
    let state = g.H.Host.state c.value.new.host in
    let items = c.in_ok-items.items in
    let value = c.in-Value.value in
    let why = c.in_err-into_result-in-Value.field-0.0 in
    let within = c.in_ok-value.ensures.same_limits in
    let comes = rw c.in-Value.is at c.in_ok-value.ensures.comes in
    let told = ap (result_told old.limits) (expression_goes old.limits inner (g.H.Host.state c.args.host.now) old.variables old.fuel c.args.text.now items c.in_ok-items.ensures ∙ comes.0) in
    let halts = fault_halts host old.limits old.left new state within comes.1 true (λ t. t) (result_of value) (λ result. End 0 result state new.variables new.fuel) why c.in_err-into_result-in-Value.ensures in
    let all = comes_from host old.limits old.left new state within true _ _ (Err (halt_of_failure why)) told halts in
    search rules

pub run_expression-returns-in-Value-clause-comes : goal.run_expression-returns-in-Value-clause-comes
run_expression-returns-in-Value-clause-comes g t c =
    let host = g.H.Host.meaning in
    let old = c.args.self.now in
    let new = c.value.new.self in
    let inner = level_of host old in
    let state = g.H.Host.state c.value.new.host in
    let items = c.in_ok-items.items in
    let comes = rw c.in-Value.is at c.in_ok-value.ensures.comes in
    let told = ap (result_told old.limits) (expression_goes old.limits inner (g.H.Host.state c.args.host.now) old.variables old.fuel c.args.text.now items c.in_ok-items.ensures ∙ comes.0) in
    rw c.with.ensures (told ∙ ap (λ r. given old.limits (value_or_fault r) state new.variables new.fuel (λ result. End 0 result state new.variables new.fuel)) c.in_ok-into_result-in-Value.ensures, comes.1)

pub run_expression-returns-in-Ended-clause-comes : goal.run_expression-returns-in-Ended-clause-comes
run_expression-returns-in-Ended-clause-comes g t c =
    let host = g.H.Host.meaning in
    let old = c.args.self.now in
    let new = c.value.new.self in
    let inner = level_of host old in
    let state = g.H.Host.state c.value.new.host in
    let items = c.in_ok-items.items in
    let end = c.in-Ended.end in
    let comes = rw c.in-Ended.is at c.in_ok-value.ensures.comes in
    let told = ap (result_told old.limits) (expression_goes old.limits inner (g.H.Host.state c.args.host.now) old.variables old.fuel c.args.text.now items c.in_ok-items.ensures ∙ comes.0) in
    let fails : end.code ≡ 0 → ⊥ = comes.1 in
    let other : end.code == 0 ≡ false = search rules in (
      told ∙ after_other end.code end.text state new.variables new.fuel
          (λ text state variables fuel. given old.limits (value_or_fault (result_of text)) state variables fuel (λ result. End 0 result state variables fuel)) other,
      comes.2,
    )

pub run_expression-returns-clause-comes : goal.run_expression-returns-clause-comes
run_expression-returns-clause-comes g t c =
    let host = g.H.Host.meaning in
    let old = c.args.self.now in
    let new = c.value.new.self in
    let inner = level_of host old in
    let state = g.H.Host.state c.value.new.host in
    let items = c.in_ok-items.items in
    let w = c.in-Waits.waiting.value in
    let more = c.in_ok-before-in-Waits.field-0.value in
    let comes = rw c.in-Waits.is at c.in_ok-value.ensures.comes in
    let told = ap (result_told old.limits) (expression_goes old.limits inner (g.H.Host.state c.args.host.now) old.variables old.fuel c.args.text.now items c.in_ok-items.ensures) in
    let waits = waits_before host old.limits old.left new state c.in_ok-value.ensures.same_limits (done_by (items_go old.limits inner items []) (g.H.Host.state c.args.host.now) old)
    more.opens w.opens w.frames.items more.frames.items frame.Whole c.in_ok-before-in-Waits.ensures.0 c.in_ok-before-in-Waits.ensures.1 comes in
    (told ∙ waits.0, waits.1)

pub run_for-returns-then-end-ne0-clause-comes : goal.run_for-returns-then-end-ne0-clause-comes
run_for-returns-then-end-ne0-clause-comes g t c =
    let host = g.H.Host.meaning in
    let first = c.args.self.now in
    let m = c.run_script.new.self in
    let state = g.H.Host.state c.args.host.now in
    let late = g.H.Host.state c.run_script.new.host in
    let turns : Loop = record { condition = c.condition-item.result; next = Some c.next-item.result; body = c.body-item.result } in
    let words = four_of c.args.words.now c.start-item.result c.condition-item.result c.next-item.result c.body-item.result
    c.in-len4.len_at_least c.in-len4.len_below c.start-item.is c.condition-item.is c.next-item.is c.body-item.is in
    let runs = start_begins host first c.args.command.now c.start-item.result c.condition-item.result c.next-item.result c.body-item.result c.args.words.now
    c.in_ok-start.start state words c.in_ok-start.ensures in
    let again = loop_does first.limits (level_of host first) turns in
    let end = c.in-Ended.end in
    let ran = script_ends host m late runs end (λ told text s v u. refl) c.run_script.ensures.same_limits (rw c.in-Ended.is at c.in_ok-end.ensures.comes) in
    let some : (end.code == 0) ≡ false = search rules in
    (ran.is ∙ after_other end.code end.text late m.variables m.fuel (λ text. again) some, ran.here)

pub run_for-returns-in-Ended-clause-comes : goal.run_for-returns-in-Ended-clause-comes
run_for-returns-in-Ended-clause-comes g t c =
    let host = g.H.Host.meaning in
    let first = c.args.self.now in
    let m = c.run_script.new.self in
    let state = g.H.Host.state c.args.host.now in
    let late = g.H.Host.state c.run_script.new.host in
    let turns : Loop = record { condition = c.condition-item.result; next = Some c.next-item.result; body = c.body-item.result } in
    let words = four_of c.args.words.now c.start-item.result c.condition-item.result c.next-item.result c.body-item.result
    c.in-len4.len_at_least c.in-len4.len_below c.start-item.is c.condition-item.is c.next-item.is c.body-item.is in
    let runs = start_begins host first c.args.command.now c.start-item.result c.condition-item.result c.next-item.result c.body-item.result c.args.words.now
    c.in_ok-start.start state words c.in_ok-start.ensures in
    let again = loop_does first.limits (level_of host first) turns in
    let end = c.in-Ended.end in
    let ran = script_ends host m late runs end (λ told text s v u. refl) c.run_script.ensures.same_limits (rw c.in-Ended.is at c.in_ok-end.ensures.comes) in
    let same : c.in_ok-turns.turns ≡ turns = rw (c.in_ok-condition.ensures, c.in_ok-body.ensures, c.in_ok-next.ensures) at c.in_ok-turns.ensures in
    let turned = comes_then first _ ran (ap (λ k. after (End k end.text late m.variables m.fuel) (λ text. again)) c.if-end-ne0.false) in
    goes_on host first true (λ limits inner. loop_does limits inner turns) m c.make_turns.new.self late (g.H.Host.state c.make_turns.new.host) c.make_turns.result turned (rw same at c.make_turns.ensures.comes)

pub run_for-returns-clause-comes : goal.run_for-returns-clause-comes
run_for-returns-clause-comes g t c =
    let host = g.H.Host.meaning in
    let first = c.args.self.now in
    let m = c.run_script.new.self in
    let state = g.H.Host.state c.args.host.now in
    let late = g.H.Host.state c.run_script.new.host in
    let turns : Loop = record { condition = c.condition-item.result; next = Some c.next-item.result; body = c.body-item.result } in
    let words = four_of c.args.words.now c.start-item.result c.condition-item.result c.next-item.result c.body-item.result
    c.in-len4.len_at_least c.in-len4.len_below c.start-item.is c.condition-item.is c.next-item.is c.body-item.is in
    let runs = start_begins host first c.args.command.now c.start-item.result c.condition-item.result c.next-item.result c.body-item.result c.args.words.now
    c.in_ok-start.start state words c.in_ok-start.ensures in
    let same : c.in_ok-turns.turns ≡ turns = rw (c.in_ok-condition.ensures, c.in_ok-body.ensures, c.in_ok-next.ensures) at c.in_ok-turns.ensures in
    let before = rw same at c.in_ok-before-in-Waits.ensures in
    script_waits host m late runs c.in-Waits.waiting.value c.in_ok-before-in-Waits.field-0.value (frame.Turns stages.Start turns) c.run_script.ensures.same_limits (λ outcome. refl)
    before (rw c.in-Waits.is at c.in_ok-end.ensures.comes)

pub run_global-returns-clause-comes : goal.run_global-returns-clause-comes
run_global-returns-clause-comes g t c =
    let host = g.H.Host.meaning in
    let old = c.args.self.now in
    let inner = level_of host old in
    let state = g.H.Host.state c.args.host.now in
    let script = c.in_ok-script.script in
    let w = c.in-Waits.waiting.value in
    let more = c.in_ok-before-in-Waits.field-0.value in
    let read : script ≡ script_of c.args.script.now = c.in_ok-script.ensures in
    let pushed : c.push_global.new.self ≡ pushed_global old.variables = c.in_ok-push_global.ensures.ok in
    let comes = rw (c.in-Waits.is, pushed, read) at c.in_ok-end.ensures.comes in
    waits_before host old.limits old.left c.run_script.new.self (g.H.Host.state c.run_script.new.host) c.in_ok-end.ensures.same_limits
    (inner (script_of c.args.script.now) state (pushed_global old.variables) old.fuel)
    more.opens w.opens w.frames.items more.frames.items frame.Global c.in_ok-before-in-Waits.ensures.0 c.in_ok-before-in-Waits.ensures.1 comes

pub run_procedure-returns-in_err-script-clause-comes : goal.run_procedure-returns-in_err-script-clause-comes
run_procedure-returns-in_err-script-clause-comes g t c =
    let host = g.H.Host.meaning in
    let old = c.args.self.now in
    let inner = level_of host old in
    let state = g.H.Host.state c.args.host.now in
    let first = c.args.command.now in
    let words = c.args.words.now in
    let procedure = map.get old.variables.procedures first in
    let why = c.in_err-script.field-0.0 in
    let same = c.in_err-script.ensures.err in
    let halts = given_halts host old.limits old.left old state refl refl true _ (entered_then old.limits inner first words procedure state old.variables old.fuel) why c.in_err-script.ensures.value in
    let all = comes_from host old.limits old.left old state refl true _ _ (Err (halt_of_interrupt why)) (procedure_then old.limits inner first words procedure state old.variables old.fuel) halts in
    rw same search rules

pub run_procedure-returns-in-Ended-clause-comes : goal.run_procedure-returns-in-Ended-clause-comes
run_procedure-returns-in-Ended-clause-comes g t c =
    let host = g.H.Host.meaning in
    let old = c.args.self.now in
    let inner = level_of host old in
    let state = g.H.Host.state c.args.host.now in
    let state' = g.H.Host.state c.run_script.new.host in
    let first = c.args.command.now in
    let words = c.args.words.now in
    let within = c.in_ok-end.ensures.same_limits in
    let came = rw c.in-Ended.is at c.in_ok-end.ensures.comes in
    let told = procedure_goes old.limits inner first words (map.get old.variables.procedures first) state old.variables old.fuel c.in_ok-script.script c.enter.new.variables c.in_ok-script.ensures.value
    ∙ ap (λ o. settled old.limits (without_frame o)) came.0 in
    let comes = rw (within, came.1) at c.after_procedure.ensures.comes in
    comes_from host old.limits old.left c.after_procedure.new.self state' (c.after_procedure.ensures.same_limits ∙ within) true _ _ c.after_procedure.result told comes

pub run_procedure-returns-clause-comes : goal.run_procedure-returns-clause-comes
run_procedure-returns-clause-comes g t c =
    let host = g.H.Host.meaning in
    let old = c.args.self.now in
    let new = c.run_script.new.self in
    let inner = level_of host old in
    let state = g.H.Host.state c.args.host.now in
    let first = c.args.command.now in
    let w = c.in-Waits.waiting.value in
    let more = c.in_ok-before-in-Waits.field-0.value in
    let comes = rw c.in-Waits.is at c.in_ok-end.ensures.comes in
    let told = procedure_goes old.limits inner first c.args.words.now (map.get old.variables.procedures first) state old.variables old.fuel c.in_ok-script.script c.enter.new.variables c.in_ok-script.ensures.value in
    let waits = waits_before host old.limits old.left new (g.H.Host.state c.run_script.new.host) c.in_ok-end.ensures.same_limits (inner c.in_ok-script.script state c.enter.new.variables old.fuel)
    more.opens w.opens w.frames.items more.frames.items frame.Procedure c.in_ok-before-in-Waits.ensures.0 c.in_ok-before-in-Waits.ensures.1 comes in
    (told ∙ waits.0, waits.1)

pub run_script-returns-in_default-clause-comes : goal.run_script-returns-in_default-clause-comes
run_script-returns-in_default-clause-comes g t c =
    let host = g.H.Host.meaning in
    let old = c.args.self.now in
    let state = g.H.Host.state c.args.host.now in
    let script = c.args.script.now in
    let m = c.run_commands.new.self in
    let new = g.H.Host.state c.run_commands.new.host in
    let some : 0 < old.left = search rules in
    let told : RunsSo host c.args.asked old.left (after (End 0 [] state old.variables old.fuel) (commands_do host old.limits (evaluate host old.limits (old.left - 1)) script)) c.run_commands.result m new = search rules in
    subst (λ o. RunsSo host c.args.asked old.left o c.run_commands.result m new) (sym (script_opens host old.limits old.left script state old.variables old.fuel some)) told

pub run_script-returns-in_err-end-clause-comes : goal.run_script-returns-in_err-end-clause-comes
run_script-returns-in_err-end-clause-comes g t c =
    let host = g.H.Host.meaning in
    let old = c.args.self.now in
    let asked = c.args.asked in
    let state = g.H.Host.state c.args.host.now in
    let below = old.left - 1 in
    let level = evaluate host old.limits below in
    let words = words_of_command c.in-Some.command.now in
    let some : 0 < old.left = search rules in
    let is : c.args.script.now ≡ command words no_command = c.in-Some.ensures in
    let does = words_do host old.limits level words [] state old.variables old.fuel in
    let same = lone_opens host old.limits old.left c.args.script.now words state old.variables old.fuel some is in
    let m = c.run_command-came.new.self in
    let new = g.H.Host.state c.run_command-came.new.host in
    let comes = c.run_command-came.ensures.comes in
    let why = c.in_err-end.field-0.0 in
    let stops = told_runs host asked below does m new c.run_command-came.result (Err why) c.in_err-end.ensures comes in
    let all : StopsSo (evaluate host old.limits old.left c.args.script.now state old.variables old.fuel) why = subst (λ o. StopsSo o why) (sym same) stops in
    search rules

pub run_script-returns-in-Ended-clause-comes : goal.run_script-returns-in-Ended-clause-comes
run_script-returns-in-Ended-clause-comes g t c =
    let host = g.H.Host.meaning in
    let old = c.args.self.now in
    let asked = c.args.asked in
    let state = g.H.Host.state c.args.host.now in
    let below = old.left - 1 in
    let level = evaluate host old.limits below in
    let words = words_of_command c.in-Some.command.now in
    let some : 0 < old.left = search rules in
    let is : c.args.script.now ≡ command words no_command = c.in-Some.ensures in
    let does = words_do host old.limits level words [] state old.variables old.fuel in
    let same = lone_opens host old.limits old.left c.args.script.now words state old.variables old.fuel some is in
    let m = c.run_command-came.new.self in
    let new = g.H.Host.state c.run_command-came.new.host in
    let comes = c.run_command-came.ensures.comes in
    let end = c.in-Ended.end in
    let told = rw c.in-Ended.is at c.in_ok-end.ensures in
    let ends = told_runs host asked below does m new c.run_command-came.result (Ok (came.Ended end)) told comes in
    (subst (λ o. EndsAs asked o end new m.variables m.fuel) (sym same) ends.0, refl)

pub run_script-returns-in_ok-before-in-Waits-clause-falls : goal.run_script-returns-in_ok-before-in-Waits-clause-falls
run_script-returns-in_ok-before-in-Waits-clause-falls g t c =
    let old = c.args.self.now in
    let words = words_of_command c.in-Some.command.now in
    let is : c.args.script.now ≡ command words no_command = c.in-Some.ensures in
    let m = c.run_command-came.new.self in
    let waits = c.in-Waits.waiting.value in
    let more = c.in_ok-before-in-Waits.field-0.value in
    let told = rw c.in-Waits.is at c.in_ok-end.ensures in
    let fell = told_falls m.limits c.run_command-came.result (Ok (came.Waits c.in-Waits.waiting)) (4 * words_size words) old.fuel m.fuel told c.run_command-came.ensures.falls in
    let weighs = weighs_before more.opens waits.opens waits.frames.items more.frames.items (frame.Commands c.skip.new.self old.left)
    c.in_ok-before-in-Waits.ensures.0 c.in_ok-before-in-Waits.ensures.1 in
    let rest = ap script_size (c.skip.ensures ∙ ap behind (c.into_remaining-rest-in-Waits.ensures ∙ c.in_ok-share-in-Waits.ensures ∙ is)) in
    let whole = ap script_size is in
    (fell.0, λ same. let weight = fell.1 same in omega (arith, weight, weighs, rest, whole))

pub run_script-returns-in_ok-before-in-Waits-clause-opened : goal.run_script-returns-in_ok-before-in-Waits-clause-opened
run_script-returns-in_ok-before-in-Waits-clause-opened g t c =
    let old = c.args.self.now in
    let words = words_of_command c.in-Some.command.now in
    let is : c.args.script.now ≡ command words no_command = c.in-Some.ensures in
    let m = c.run_command-came.new.self in
    let waits = c.in-Waits.waiting.value in
    let more = c.in_ok-before-in-Waits.field-0.value in
    let told = rw c.in-Waits.is at c.in_ok-end.ensures in
    let fell = told_falls m.limits c.run_command-came.result (Ok (came.Waits c.in-Waits.waiting)) (4 * words_size words) old.fuel m.fuel told c.run_command-came.ensures.falls in
    let weighs = weighs_before more.opens waits.opens waits.frames.items more.frames.items (frame.Commands c.skip.new.self old.left)
    c.in_ok-before-in-Waits.ensures.0 c.in_ok-before-in-Waits.ensures.1 in
    let rest = ap script_size (c.skip.ensures ∙ ap behind (c.into_remaining-rest-in-Waits.ensures ∙ c.in_ok-share-in-Waits.ensures ∙ is)) in
    let whole = ap script_size is in
    λ near. (fell.0, λ same. let weight = fell.1 same in omega (arith, weight, weighs, rest, whole))

pub run_script-returns-in_ok-before-in-Waits-clause-comes : goal.run_script-returns-in_ok-before-in-Waits-clause-comes
run_script-returns-in_ok-before-in-Waits-clause-comes g t c =
    let host = g.H.Host.meaning in
    let old = c.args.self.now in
    let asked = c.args.asked in
    let state = g.H.Host.state c.args.host.now in
    let below = old.left - 1 in
    let level = evaluate host old.limits below in
    let words = words_of_command c.in-Some.command.now in
    let some : 0 < old.left = search rules in
    let is : c.args.script.now ≡ command words no_command = c.in-Some.ensures in
    let does = words_do host old.limits level words [] state old.variables old.fuel in
    let same = lone_opens host old.limits old.left c.args.script.now words state old.variables old.fuel some is in
    let m = c.run_command-came.new.self in
    let new = g.H.Host.state c.run_command-came.new.host in
    let comes = c.run_command-came.ensures.comes in
    let waiting = c.in-Waits.waiting in
    let more = c.in_ok-before-in-Waits.field-0.value in
    let told = rw c.in-Waits.is at c.in_ok-end.ensures in
    let waits = told_runs host asked below does m new c.run_command-came.result (Ok (came.Waits waiting)) told comes in
    let before = waits_before host old.limits below m new c.run_command-came.ensures.same_limits does more.opens waiting.value.opens waiting.value.frames.items more.frames.items
    (frame.Commands c.skip.new.self old.left) c.in_ok-before-in-Waits.ensures.0 c.in_ok-before-in-Waits.ensures.1 waits in
    let rest = c.skip.ensures ∙ ap behind (c.into_remaining-rest-in-Waits.ensures ∙ c.in_ok-share-in-Waits.ensures ∙ is) in
    (same ∙ sym (after_done does) ∙ ap (λ r. after does (commands_do host old.limits level r)) (sym rest) ∙ before.0, before.1)

pub run_test-returns-in_err-value-clause-comes : goal.run_test-returns-in_err-value-clause-comes
run_test-returns-in_err-value-clause-comes g t c =
    let host = g.H.Host.meaning in
    let first = c.args.self.now in
    let new = c.take_step.new.self in
    let m = c.value.new.self in
    let state = g.H.Host.state c.args.host.now in
    let late = g.H.Host.state c.value.new.host in
    let test : Test = record { condition = c.args.condition.now; body = c.args.body.now } in
    let otherwise = option_copied c.args.otherwise in
    let whole = done_by (branches_do first.limits (level_of host first) otherwise (test ∷ [])) state first in
    let tests = branches_begin host first otherwise (test ∷ []) [] test test.condition state first new c.in_ok-items.items (itself first whole) refl
    c.in_ok-take_step.ensures.step c.in_ok-take_step.ensures.kept refl c.in_ok-items.ensures in
    let halts = value_halts host m late tests c.args.asked c.in_err-value.field-0.0 c.in_err-value.ensures.comes in
    search rules

pub run_test-returns-in_err-holds-in-Value-clause-comes : goal.run_test-returns-in_err-holds-in-Value-clause-comes
run_test-returns-in_err-holds-in-Value-clause-comes g t c =
    let host = g.H.Host.meaning in
    let first = c.args.self.now in
    let new = c.take_step.new.self in
    let m = c.value.new.self in
    let state = g.H.Host.state c.args.host.now in
    let late = g.H.Host.state c.value.new.host in
    let test : Test = record { condition = c.args.condition.now; body = c.args.body.now } in
    let otherwise = option_copied c.args.otherwise in
    let whole = done_by (branches_do first.limits (level_of host first) otherwise (test ∷ [])) state first in
    let tests = branches_begin host first otherwise (test ∷ []) [] test test.condition state first new c.in_ok-items.items (itself first whole) refl
    c.in_ok-take_step.ensures.step c.in_ok-take_step.ensures.kept refl c.in_ok-items.ensures in
    let comes = rw c.in-Value.is at c.in_ok-value.ensures.comes in
    let halts = truth_halts host m late tests c.args.asked c.in-Value.value c.in_err-holds-in-Value.field-0.0 c.value.ensures.same_limits comes c.in_err-holds-in-Value.ensures in
    search rules

pub run_test-returns-in-Value-clause-comes : goal.run_test-returns-in-Value-clause-comes
run_test-returns-in-Value-clause-comes g t c =
    let host = g.H.Host.meaning in
    let first = c.args.self.now in
    let new = c.take_step.new.self in
    let m = c.value.new.self in
    let state = g.H.Host.state c.args.host.now in
    let late = g.H.Host.state c.value.new.host in
    let test : Test = record { condition = c.args.condition.now; body = c.args.body.now } in
    let otherwise = option_copied c.args.otherwise in
    let whole = done_by (branches_do first.limits (level_of host first) otherwise (test ∷ [])) state first in
    let tests = branches_begin host first otherwise (test ∷ []) [] test test.condition state first new c.in_ok-items.items (itself first whole) refl
    c.in_ok-take_step.ensures.step c.in_ok-take_step.ensures.kept refl c.in_ok-items.ensures in
    let comes = rw c.in-Value.is at c.in_ok-value.ensures.comes in
    let chosen : ComesTo first whole (done_by (script_does (level_of host first) (option_copied c.if-branch.chosen)) late m) m = elim c.if-branch.branch [
      | run_test-then-branch w ↦ rw w.chosen-is (value_holds host m late tests c.in-Value.value true c.value.ensures.same_limits comes (search rules))
      | run_test-else-branch w ↦ rw w.chosen-is (value_holds host m late tests c.in-Value.value false c.value.ensures.same_limits comes (search rules))
    ] in
    goes_on host first c.args.asked (λ limits inner. script_does inner (option_copied c.if-branch.chosen)) m c.run_body.new.self late (g.H.Host.state c.run_body.new.host) c.run_body.result chosen c.run_body.ensures.comes

pub run_test-returns-in-Ended-clause-comes : goal.run_test-returns-in-Ended-clause-comes
run_test-returns-in-Ended-clause-comes g t c =
    let host = g.H.Host.meaning in
    let first = c.args.self.now in
    let new = c.take_step.new.self in
    let m = c.value.new.self in
    let state = g.H.Host.state c.args.host.now in
    let late = g.H.Host.state c.value.new.host in
    let test : Test = record { condition = c.args.condition.now; body = c.args.body.now } in
    let otherwise = option_copied c.args.otherwise in
    let whole = done_by (branches_do first.limits (level_of host first) otherwise (test ∷ [])) state first in
    let tests = branches_begin host first otherwise (test ∷ []) [] test test.condition state first new c.in_ok-items.items (itself first whole) refl
    c.in_ok-take_step.ensures.step c.in_ok-take_step.ensures.kept refl c.in_ok-items.ensures in
    let ends = value_ends host m late tests c.in-Ended.end c.value.ensures.same_limits (rw c.in-Ended.is at c.in_ok-value.ensures.comes) in
    (ends_as c.args.asked _ c.in-Ended.end late m.variables m.fuel ends.is, ends.here)

pub run_test-returns-clause-comes : goal.run_test-returns-clause-comes
run_test-returns-clause-comes g t c =
    let host = g.H.Host.meaning in
    let first = c.args.self.now in
    let new = c.take_step.new.self in
    let m = c.value.new.self in
    let state = g.H.Host.state c.args.host.now in
    let late = g.H.Host.state c.value.new.host in
    let test : Test = record { condition = c.args.condition.now; body = c.args.body.now } in
    let otherwise = option_copied c.args.otherwise in
    let whole = done_by (branches_do first.limits (level_of host first) otherwise (test ∷ [])) state first in
    let tests = branches_begin host first otherwise (test ∷ []) [] test test.condition state first new c.in_ok-items.items (itself first whole) refl
    c.in_ok-take_step.ensures.step c.in_ok-take_step.ensures.kept refl c.in_ok-items.ensures in
    let rest : Branches = record { tests = []; otherwise = otherwise } in
    let before = rw (c.in_ok-body-in-Waits.ensures, c.new.ensures, c.in_ok-body_again-in-Waits.ensures) at c.in_ok-before-in-Waits.ensures in
    value_waits host m late tests c.in-Waits.waiting.value c.in_ok-before-in-Waits.field-0.value (frame.Branch test.body rest) c.value.ensures.same_limits (λ outcome. refl)
    before (rw c.in-Waits.is at c.in_ok-value.ensures.comes)

pub value-returns-in-Some-clause-comes : goal.value-returns-in-Some-clause-comes
value-returns-in-Some-clause-comes g t c =
    let host = g.H.Host.meaning in
    let old = c.args.self.now in
    let state = g.H.Host.state c.args.host.now in
    let alone : c.args.items.now ≡ item.Two c.in-Some.operator c.in-Some.left.now c.in-Some.right.now ∷ [] = search rules in (
      ap (λ items. done_by (items_go old.limits (level_of host old) items []) state old) alone
          ∙ leaves_done host (level_of host old) old state c.in-Some.operator c.in-Some.left.now c.in-Some.right.now c.in_ok-value.value c.in_ok-value.ensures,
      refl,
    )

pub value-returns-in_err-value-clause-comes : goal.value-returns-in_err-value-clause-comes
value-returns-in_err-value-clause-comes g t c =
    let host = g.H.Host.meaning in
    let old = c.args.self.now in
    let state = g.H.Host.state c.args.host.now in
    let why = c.in_err-value.field-0.0 in
    let alone : c.args.items.now ≡ item.Two c.in-Some.operator c.in-Some.left.now c.in-Some.right.now ∷ [] = search rules in
    let goes = ap (λ items. done_by (items_go old.limits (level_of host old) items []) state old) alone in
    let halts = leaves_halt host (level_of host old) old state c.in-Some.operator c.in-Some.left.now c.in-Some.right.now why c.in_err-value.ensures in
    let whole = valued_from host old.left old state _ _ (Err (halt_of_interrupt why)) goes halts in
    search rules

pub value-returns-clause-comes : goal.value-returns-clause-comes
value-returns-clause-comes g t c =
    let items = c.args.items.now in
    let all : drop (length items - length c.as_slice-all.result.now) items ≡ items = search rules in
    rw (all, c.new.ensures) at c.count.ensures.comes
