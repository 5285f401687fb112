use Rattle.tks_eval.proofs.Updates.{updates_unroll}
use Rattle.tks_eval.proofs.laws.updates_unroll.Goals as goal

pub returns : goal.returns
returns g c = updates_unroll g.H.Host.meaning
