use Rattle.std.proofs.Common.{◌≡◌, Ok, Err, refl, ap, ◌∙◌, Result, List, ℕ}
use Rattle.std.proofs.lemmas.Result.{err_from_is_err_and}
use Rattle.tks_text.specs.declared.limits.Limits.{Limits}
use Rattle.tks_vars.specs.Variables.{Variables}
use Rattle.tks_tcl.specs.Cause.{Cause, after, within}
use Rattle.tks_tcl.specs.Meets.{FailsSo}
use Rattle.tks_tcl.specs.View.{list_command_of, command_of}
use Rattle.tks_tcl.specs.Plain.{Ending, with_code_0}
use Rattle.tks_tcl.specs.Variables.{answers}
use Rattle.tks_tcl.specs.declared.interrupt.Interrupt.{Interrupt}
use Rattle.tks_tcl.specs.declared.interrupt.Interrupt.TheVariants as interrupt
use Rattle.tks_tcl.proofs.calls.run_command.Goals as goal

module _ (limits : Limits) (v : Variables) where
  ends_by : (r : Result (List ℕ) Cause) → after (after r (λ text. Ok (text, v))) with_code_0 ≡ after r (λ text. Ok ((0, text), v))
  ends_by (Ok text) = refl
  ends_by (Err cause) = refl

  -- an answer within the limit ends with code 0
  ends : (r : Result (List ℕ) Cause) → after (answers limits v r) with_code_0 ≡ after (after r (within limits)) (λ text. Ok ((0, text), v))
  ends (Ok text) = ends_by (within limits text)
  ends (Err cause) = refl

  fails_by : (r : Result (List ℕ) Cause) (why : Interrupt) → FailsSo why r → FailsSo {Y = Ending} why (after r (λ text. Ok ((0, text), v)))
  fails_by r (interrupt.Script fault) e = ap (λ r. after r (λ text. Ok ((0, text), v))) e
  fails_by r interrupt.TooLarge e = ap (λ r. after r (λ text. Ok ((0, text), v))) e
  fails_by r interrupt.NoMemory e = tt

pub returns-in_err-text-in-OfLists-clause-value : goal.returns-in_err-text-in-OfLists-clause-value
returns-in_err-text-in-OfLists-clause-value c =
    let p = err_from_is_err_and c.from_residual-in_err-text-in-OfLists.result c.from_residual-in_err-text-in-OfLists.ensures.1 in
    let limits = c.args.limits.now in
    let variables = c.args.variables.now in
    let does = list_command_of c.in-OfLists.command c.args.name.now c.args.words.now in
    rw (p.1, p.2, c.in-OfLists.is, ends limits variables does) (fails_by limits variables (after does (within limits)) c.in_err-text-in-OfLists.field-0.0 c.in_err-text-in-OfLists.ensures)

pub returns-in_ok-text-in-OfLists-clause-value : goal.returns-in_ok-text-in-OfLists-clause-value
returns-in_ok-text-in-OfLists-clause-value c =
    let limits = c.args.limits.now in
    let variables = c.args.variables.now in
    let does = list_command_of c.in-OfLists.command c.args.name.now c.args.words.now in
    ap (λ command. command_of command limits c.args.name.now c.args.words.now variables) c.in-OfLists.is
    ∙ ends limits variables does
    ∙ ap (λ r. after r (λ text. Ok ((0, text), variables))) c.in_ok-text-in-OfLists.ensures
