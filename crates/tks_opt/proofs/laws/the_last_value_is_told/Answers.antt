use Rattle.tks_opt.proofs.Given.{last_wins}
use Rattle.tks_opt.proofs.laws.the_last_value_is_told.Goals as goal

pub returns : goal.returns
returns c = last_wins
