use Rattle.tks_durable.proofs.Formats.{formats_agree}
use Rattle.tks_durable.proofs.laws.formats_open_alike.Goals as goal

pub returns : goal.returns
returns g c = λ live header world bodies state short same e. formats_agree (g.M.Machine.meaning c.args.machine.now) header world state same bodies short e
