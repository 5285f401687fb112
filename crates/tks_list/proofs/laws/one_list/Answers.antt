use Rattle.tks_list.proofs.Told.{splits_one}
use Rattle.tks_list.proofs.laws.one_list.Goals as goal

pub returns : goal.returns
returns c = splits_one
