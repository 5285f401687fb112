use Rattle.tks_keeping.proofs.Steps.{steps_keep}
use Rattle.tks_keeping.proofs.laws.steps_keep_worlds.Goals as goal

pub returns : goal.returns
returns c = steps_keep
