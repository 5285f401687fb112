use Rattle.tks_world.proofs.Joining.{leave_out}
use Rattle.tks_world.proofs.laws.refused_inputs_leave_runs.Goals as goal

pub returns : goal.returns
returns c = leave_out
