use Rattle.tks_eval.proofs.Framing.{run_leaves}
use Rattle.tks_eval.proofs.laws.scripts_leave_frames.Goals as goal

pub returns : goal.returns
returns g c = run_leaves g.H.Host.meaning
