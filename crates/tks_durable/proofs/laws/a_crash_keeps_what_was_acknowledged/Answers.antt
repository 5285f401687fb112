use Rattle.tks_durable.proofs.Crashes.{keeps_acknowledged}
use Rattle.tks_durable.proofs.laws.a_crash_keeps_what_was_acknowledged.Goals as goal

pub returns : goal.returns
returns g c = λ images world works h some is.
    keeps_acknowledged (g.M.Machine.meaning c.args.durable.now.machine) (g.D.Disk.view c.args.durable.now.journal.disk).reads c.args.durable.now.acknowledged c.args.durable.now.waiting images world (c.stands.ensures.acknowledged works h) some is
