use Rattle.tks_session.proofs.Steps.{counted, own}
use Rattle.tks_session.proofs.stepper.StepperMachine.step.Goals as goal

pub returns-in-Ok-clause-counted : goal.returns-in-Ok-clause-counted
returns-in-Ok-clause-counted g c = counted _ _ _ _ _ _ c.in-Ok.ensures.accepted

pub returns-in-Ok-clause-own : goal.returns-in-Ok-clause-own
returns-in-Ok-clause-own g c = own _ _ _ _ _ _ _ c.in-Ok.ensures.accepted
