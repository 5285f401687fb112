use Rattle.tks_world.proofs.Wider.{steps_stay}
use Rattle.tks_world.proofs.laws.wider_limits_keep_steps.Goals as goal

pub returns : goal.returns
returns c = λ app limits wider wide. steps_stay app limits wider wide
