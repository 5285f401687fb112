use Rattle.std.proofs.Common.{◌≡◌, ◌+◌, ◌*◌, refl, ap, ◌∙◌, arith}
use Rattle.tks_parse.specs.Reading.{script_of}
use Rattle.tks_parse.specs.Tree.{script_size}
use Rattle.tks_eval.specs.Evaluation.{turn_does, loop_does}
use Rattle.tks_eval.specs.Machine.{level_of, done_by, text_weight}
use Rattle.tks_eval.specs.declared.frame.Frame.TheVariants as frame
use Rattle.tks_eval.specs.declared.loops.Stage.TheVariants as stages
use Rattle.tks_eval.proofs.Coming.{weighs_before}
use Rattle.tks_eval.proofs.Looping.{itself, body_begins, script_waits}
use Rattle.tks_eval.proofs.machine.Machine.run_turn.Goals as goal

pub returns-in_ok-before-in-Waits-clause-falls : goal.returns-in_ok-before-in-Waits-clause-falls
returns-in_ok-before-in-Waits-clause-falls g c =
    let weight : 4 * script_size c.script.result.now + 2 ≡ text_weight c.args.turns.body = ap (λ s. 4 * script_size s + 2) (c.script.ensures ∙ ap script_of c.body.ensures) in
    let falls = rw c.in-Waits.is at c.in_ok-end.ensures.falls in
    let weighs = weighs_before c.in_ok-before-in-Waits.field-0.value.opens c.in-Waits.waiting.value.opens
    c.in-Waits.waiting.value.frames.items c.in_ok-before-in-Waits.field-0.value.frames.items (frame.Turns stages.Body c.args.turns) c.in_ok-before-in-Waits.ensures.0 c.in_ok-before-in-Waits.ensures.1 in
    (falls.0, λ same. omega (arith, falls.1 same, weighs, weight))

pub returns-in_ok-before-in-Waits-clause-comes : goal.returns-in_ok-before-in-Waits-clause-comes
returns-in_ok-before-in-Waits-clause-comes g c =
    let host = g.H.Host.meaning in
    let first = c.args.self.now in
    let turns = c.args.turns in
    let again = loop_does first.limits (level_of host first) turns in
    let state = g.H.Host.state c.args.host.now in
    let whole = done_by (turn_does (level_of host first) turns again) state first in
    let runs = body_begins host first turns turns again c.body.result.now c.script.result.now state first (itself first whole) refl c.body.ensures c.script.ensures in
    script_waits host c.run_script.new.self (g.H.Host.state c.run_script.new.host) runs c.in-Waits.waiting.value c.in_ok-before-in-Waits.field-0.value (frame.Turns stages.Body turns)
    c.run_script.ensures.same_limits (λ outcome. refl) c.in_ok-before-in-Waits.ensures (rw c.in-Waits.is at c.in_ok-end.ensures.comes)
