use Rattle.std.proofs.Common.{◌≡◌, Some, None, Ok, sym, ap, subst, ◌∙◌, rules}
use Rattle.tks_opt.specs.declared.said.Said.TheVariants.{Text}
use Rattle.tks_state.specs.Asking.{AsksSo, changed}
use Rattle.tks_state.specs.Widget.{called}
use Rattle.tks_state.specs.Windows.{kept_of}
use Rattle.tks_state.specs.declared.widget.Widget.{Widget}
use Rattle.tks_state.proofs.Called.{asked_of_all, done_nowhere}
use Rattle.tks_state.proofs.windows.ask_at.Goals as goal

pub returns-in-Some : goal.returns-in-Some
returns-in-Some c =
    let k = c.in-Some.one.now in
    let there : kept_of c.args.kept.now c.args.window ≡ Some k = search rules in
    let asked = subst (λ (w : Widget). AsksSo (λ x. changed x w) c.ask.result (called w c.args.words.now) w) c.get.ensures c.ask.ensures in
    asked_of_all c.args.window (λ w. called w c.args.words.now) c.args.kept.now k there c.ask.result asked

pub returns-in-None : goal.returns-in-None
returns-in-None c =
    let nowhere : kept_of c.args.kept.now c.args.window ≡ None = search rules in
    done_nowhere c.args.window (λ w. called w c.args.words.now) c.args.kept.now nowhere ∙ ap (λ text. Ok (Text text, c.args.kept.now)) (sym c.new.ensures)
