use Rattle.tks_session.proofs.AnyCalls.{holds}
use Rattle.tks_session.proofs.laws.any_calls_keep_what_is_acknowledged.Goals as goal

pub returns : goal.returns
returns g c = λ setting. holds setting g.D.Disk.view
