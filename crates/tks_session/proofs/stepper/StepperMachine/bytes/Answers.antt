use Rattle.tks_app.specs.Applications.{Application}
use Rattle.tks_session.proofs.Stored.{stored_back}
use Rattle.tks_session.proofs.stepper.StepperMachine.bytes.Goals as goal

pub returns-clause-stored : goal.returns-clause-stored
returns-clause-stored g c = λ own h grid names.
    let t = c.args.self.now in
    let app : Application = record { names = t.apps; meaning = g.T.AppMeaning.meaning } in
    stored_back app t.limits t.grid h c.args.world.now c.in_ok-bytes.bytes.items c.in_ok-bytes.ensures.legal c.in_ok-bytes.ensures.value own grid names
