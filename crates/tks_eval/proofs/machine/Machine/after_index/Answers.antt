use Rattle.std.proofs.Common.{◌≡◌, ℕ, true, List, Result, Err, refl, ap, sym, ◌∙◌, rules}
use Rattle.tks_parse.specs.View.{parts_of}
use Rattle.tks_tcl.specs.Cause.{Cause}
use Rattle.tks_eval.specs.Outcome.{Outcome, End, given}
use Rattle.tks_eval.specs.Meets.{halt_of_interrupt}
use Rattle.tks_eval.specs.Evaluation.{element_name, with_value, parts_do}
use Rattle.tks_eval.specs.Machine.{after_frame, level_of}
use Rattle.tks_eval.specs.declared.frame.Frame.TheVariants as frame
use Rattle.tks_eval.proofs.Coming.{comes_from, given_halts}
use Rattle.tks_eval.proofs.machine.Machine.after_index.Goals as goal

pub returns-in_err-grow_by_value-clause-comes : goal.returns-in_err-grow_by_value-clause-comes
returns-in_err-grow_by_value-clause-comes g c =
    let host = g.H.Host.meaning in
    let old = c.args.self.now in
    let state = g.H.Host.state c.args.host.now in
    let why = c.in_err-grow_by_value.field-0.0 in
    let named : c.in_ok-name.name ≡ element_name c.args.name c.args.end.text = c.in_ok-name.ensures in
    let ended : c.args.end.code ≡ 0 = c.if-end-ne0.false in
    let goes = ap (λ k. after_frame host old.limits old.left (frame.Element c.args.name c.args.made c.args.parts) (End k c.args.end.text state old.variables old.fuel)) ended
    ∙ ap (λ n. given old.limits (with_value old.limits old.variables n c.args.made) state old.variables old.fuel (λ made. parts_do old.limits (level_of host old) (parts_of c.args.parts) made state old.variables old.fuel)) (sym named) in
    let halts = given_halts host old.limits old.left old state refl refl true (with_value old.limits old.variables c.in_ok-name.name c.args.made)
    (λ made. parts_do old.limits (level_of host old) (parts_of c.args.parts) made state old.variables old.fuel) why c.in_err-grow_by_value.ensures in
    let all = comes_from host old.limits old.left old state refl true _ _ (Err (halt_of_interrupt why)) goes halts in
    search rules

pub returns-clause-comes : goal.returns-clause-comes
returns-clause-comes g c =
    let host = g.H.Host.meaning in
    let old = c.args.self.now in
    let state = g.H.Host.state c.args.host.now in
    let named : c.in_ok-name.name ≡ element_name c.args.name c.args.end.text = c.in_ok-name.ensures in
    let ended : c.args.end.code ≡ 0 = c.if-end-ne0.false in
    let next : Result (List ℕ) Cause → Outcome _ = λ r. given old.limits r state old.variables old.fuel (λ made. parts_do old.limits (level_of host old) (parts_of c.args.parts) made state old.variables old.fuel) in
    let goes = ap (λ k. after_frame host old.limits old.left (frame.Element c.args.name c.args.made c.args.parts) (End k c.args.end.text state old.variables old.fuel)) ended
    ∙ ap (λ n. next (with_value old.limits old.variables n c.args.made)) (sym named)
    ∙ ap next c.in_ok-grow_by_value.ensures in
    comes_from host old.limits old.left c.make_text.new.self (g.H.Host.state c.make_text.new.host) c.make_text.ensures.same_limits true _ _ c.make_text.result goes c.make_text.ensures.comes
