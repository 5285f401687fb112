use Rattle.tks_session.proofs.session.Session.open.Goals as goal

pub returns-in-Ok-clause-now : goal.returns-in-Ok-clause-now
returns-in-Ok-clause-now g c = c.in-Ok.ensures.now
