use Rattle.std.proofs.Common.{List, ℕ, drop, ◌∙◌, ap}
use Rattle.tks_app.specs.Applications.{Application}
use Rattle.tks_session.specs.Terminals.{is_stored}
use Rattle.tks_session.proofs.Stored.{some_own}
use Rattle.tks_session.proofs.stepper.StepperMachine.stored.Goals as goal

pub returns-in-Ok-clause-own : goal.returns-in-Ok-clause-own
returns-in-Ok-clause-own g c =
    let t = c.args.self.now in
    let app : Application = record { names = t.apps; meaning = g.T.AppMeaning.meaning } in
    let rest = drop c.in-Ok.read c.args.bytes.now in
    rw c.then_some.ensures
    (some_own app t.limits t.grid c.args.format c.args.header.now c.in-Ok.world rest _ c.in-Ok.ensures.found.0
    (c.is_stored-is_whole.ensures ∙ ap (λ (ns : List (List ℕ)). is_stored ns c.in-Ok.world rest) c.as_slice.ensures.value))
