use Rattle.std.proofs.Common.{rules, ◌≡◌, Ok, Some, None, sym, ap, subst, ◌∙◌}
use Rattle.tks_state.specs.Windows.{kept_of}
use Rattle.tks_state.specs.WellFormed.{WellFormedWidget}
use Rattle.tks_cmd.specs.Changes.{outcome}
use Rattle.tks_cmd.specs.Contents.{holds_within}
use Rattle.tks_cmd.proofs.Results.{err_is}
use Rattle.tks_cmd.proofs.Alone.{fails, passes, ends, ends_without, called_of}
use Rattle.tks_cmd.proofs.widgets.run_alone.Goals as goal
use Rattle.tks_cmd.proofs.widgets.run_alone.Goals.{in-Some+else-not-holds_within, in_default}

pub returns-in_err-said-clause-value : goal.returns-in_err-said-clause-value
returns-in_err-said-clause-value c = λ v.
    let is = err_is c.from_residual.result c.in_err-said.field-0.0 c.from_residual.ensures.1 in
    rw is (fails c.args.limits.now c.args.window c.args.words.now c.args.world.now c.requires.other c.requires.alone c.in_err-said.field-0.0 c.in_err-said.ensures.value v)

pub returns-then-not-holds_within-clause-value : goal.returns-then-not-holds_within-clause-value
returns-then-not-holds_within-clause-value c = λ v.
    let new = c.call_widget.new.world in
    let t = called_of c.args.window c.args.words.now c.args.world.now c.in_ok-said.said new c.in_ok-said.ensures.value in
    let there : kept_of new.kept c.args.window ≡ Some c.in-Some.kept.now = search rules in
    let formed = subst WellFormedWidget c.get-widget.ensures c.stands.ensures in
    let over = ap (holds_within c.args.limits.now) (sym c.get-widget.ensures) ∙ sym c.holds_within.ensures ∙ c.if-not-holds_within.true in
    passes c.args.limits.now c.args.window c.args.words.now c.args.world.now c.requires.other c.requires.alone c.in_ok-said.said new t c.in-Some.kept.now there formed v over

pub returns-clause-value : goal.returns-clause-value
returns-clause-value c = λ v.
    let new = c.call_widget.new.world in
    let t = called_of c.args.window c.args.words.now c.args.world.now c.in_ok-said.said new c.in_ok-said.ensures.value in
    elim c.match-kept.branch [
      | in-Some+else-not-holds_within w ↦
          let there : kept_of new.kept c.args.window ≡ Some w.in-Some.kept.now = search rules in
          let formed = subst WellFormedWidget w.get-widget.ensures w.stands.ensures in
          let within = ap (holds_within c.args.limits.now) (sym w.get-widget.ensures) ∙ sym w.holds_within.ensures ∙ w.if-not-holds_within.false in
          ends c.args.limits.now c.args.window c.args.words.now c.args.world.now c.requires.other c.requires.alone c.in_ok-said.said new t w.in-Some.kept.now there formed v within
      | in_default w ↦
          let gone : kept_of new.kept c.args.window ≡ None = search rules in
          ends_without c.args.limits.now c.args.window c.args.words.now c.args.world.now c.requires.other c.requires.alone c.in_ok-said.said new t gone v
    ]
    ∙ ap (λ p. Ok (outcome p new v)) (sym c.plan_of.ensures)
