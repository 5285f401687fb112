use Rattle.tks_list.proofs.Joined.{joined_splits}
use Rattle.tks_list.proofs.laws.join_splits_back.Goals as goal

pub returns : goal.returns
returns c = joined_splits
