use Rattle.tks_world.proofs.Joining.{join}
use Rattle.tks_world.proofs.laws.runs_join.Goals as goal

pub returns : goal.returns
returns c = join
