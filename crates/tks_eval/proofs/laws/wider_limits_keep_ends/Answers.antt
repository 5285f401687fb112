use Rattle.tks_eval.proofs.Wider.{ends_stay}
use Rattle.tks_eval.proofs.laws.wider_limits_keep_ends.Goals as goal

pub returns : goal.returns
returns g c = ends_stay g.H.Host.meaning
