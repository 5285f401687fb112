use Rattle.std.proofs.Common.{◌≡◌, ◌==◌, Ok, Some, position, ap, sym, subst, ◌∙◌, None}
use Rattle.std.specs.Prelude.{IfSome, IfNone, slice_get}
use Rattle.tks_opt.specs.declared.said.Said.TheVariants.{Text}
use Rattle.tks_share.specs.Lists.{IsChangedAt}
use Rattle.tks_state.specs.Asking.{changed}
use Rattle.tks_state.specs.Calling.{IsDone}
use Rattle.tks_state.specs.declared.kept.Kept.{Kept}
use Rattle.tks_state.proofs.Places.{nowhere, stands_there}
use Rattle.tks_state.proofs.Called.{done_nowhere, done_there, marks_stay, undone}
use Rattle.tks_state.proofs.windows.change_at.Goals as goal

there : (c : goal.In-Some-2) → Some c.in-Some.place ≡ position (λ (k : Kept). k.window == c.args.window) c.args.kept.now
there c = c.in-Some.ensures ∙ ap (λ n. position (λ (k : Kept). k.window == n) c.args.kept.now) c.number.ensures

made : (c : goal.In-Some-2) → IsChangedAt (IsDone (changed c.args.change)) c.in-Some.place c.args.kept.now c.change.new.self c.in-Some-2.answer
made c =
    subst (λ o. IfSome o (λ a. IsChangedAt (IsDone (changed c.args.change)) c.in-Some.place c.args.kept.now c.change.new.self a)) c.in-Some-2.is c.in_ok-answer.ensures.some

pub returns-in_default-clause-value : goal.returns-in_default-clause-value
returns-in_default-clause-value c =
    let place = c.in_default.ensures ∙ ap (λ n. position (λ (k : Kept). k.window == n) c.args.kept.now) c.number.ensures in
    done_nowhere c.args.window (changed c.args.change) c.args.kept.now (nowhere c.args.window c.args.kept.now place)
    ∙ ap (λ text. Ok (Text text, c.args.kept.now)) (sym c.new.ensures)

pub unreachable-requires : goal.unreachable-requires
unreachable-requires c =
    let place = c.in-Some.ensures ∙ ap (λ n. position (λ (k : Kept). k.window == n) c.args.kept.now) c.number.ensures in
    let none = subst (λ o. IfNone o ((c.change.new.self ≡ c.args.kept.now) × (slice_get c.args.kept.now c.in-Some.place ≡ None))) c.in-None.is c.in_ok-answer.ensures.none in
    stands_there c.args.window c.args.kept.now c.in-Some.place place none.1

pub returns-clause-value : goal.returns-clause-value
returns-clause-value c = done_there c.args.window (changed c.args.change) c.args.kept.now c.change.new.self c.in-Some.place c.in-Some-2.answer (there c) (made c)

pub returns-clause-marks : goal.returns-clause-marks
returns-clause-marks c = marks_stay c.args.window (changed c.args.change) c.args.kept.now c.change.new.self c.in-Some.place c.in-Some-2.answer (there c) (made c)

pub returns-clause-err : goal.returns-clause-err
returns-clause-err c = undone c.args.window (changed c.args.change) c.args.kept.now c.change.new.self c.in-Some.place c.in-Some-2.answer (there c) (made c)
