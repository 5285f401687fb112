use Rattle.tks_desk.proofs.running.run.Goals as goal

pub returns-clause-exit : goal.returns-clause-exit
returns-clause-exit g c = λ works h. record { images = c.stands.ensures.images works h; acknowledged = c.stands.ensures.acknowledged works h }
