use Rattle.tks_tree.proofs.Earlier.{made_earlier}
use Rattle.tks_tree.proofs.laws.windows_were_made_after_their_parents.Goals as goal

pub returns : goal.returns
returns c = made_earlier
