use Rattle.std.proofs.Common.{◌≡◌, ◌∷◌, subst, ◌∙◌, arith}
use Rattle.std.proofs.lemmas.Fmt.{decimal_digit}
use Rattle.std.specs.Prelude.{OnOk}
use Rattle.tks_eval.proofs.expressions.Values.push_truth.Goals as goal

pub returns-then-holds : goal.returns-then-holds
returns-then-holds c =
    rw c.if-holds.true (subst (λ text. OnOk c.push.result (c.push.new.self ≡ text ∷ c.args.self.now)) (c.integer.ensures ∙ decimal_digit 1 (omega arith)) c.push.ensures)

pub returns-else-holds : goal.returns-else-holds
returns-else-holds c =
    rw c.if-holds.false (subst (λ text. OnOk c.push-else-holds.result (c.push-else-holds.new.self ≡ text ∷ c.args.self.now)) (c.integer-else-holds.ensures ∙ decimal_digit 0 (omega arith)) c.push-else-holds.ensures)
