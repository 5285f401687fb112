use Rattle.tks_app.specs.Applications.{Application}
use Rattle.tks_session.proofs.Stored.{own_within}
use Rattle.tks_session.proofs.stepper.StepperMachine.is_within.Goals as goal

pub returns-clause-own : goal.returns-clause-own
returns-clause-own g c =
    let t = c.args.self.now in
    let app : Application = record { names = t.apps; meaning = g.T.AppMeaning.meaning } in
    own_within app t.limits t.grid c.args.world.now
