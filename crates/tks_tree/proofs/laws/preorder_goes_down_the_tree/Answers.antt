use Rattle.tks_tree.proofs.Preorders.{goes_down}
use Rattle.tks_tree.proofs.laws.preorder_goes_down_the_tree.Goals as goal

pub returns : goal.returns
returns c = goes_down
