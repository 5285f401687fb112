use Rattle.tks_eval.proofs.Updates.{updates_leave_nothing}
use Rattle.tks_eval.proofs.laws.updates_leave_nothing.Goals as goal

pub returns : goal.returns
returns g c = updates_leave_nothing g.H.Host.meaning
