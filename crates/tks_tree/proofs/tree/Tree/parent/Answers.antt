use Rattle.std.proofs.Common.{rules}
use Rattle.tks_tree.proofs.tree.Tree.parent.Goals as goal

pub returns : goal.returns
returns = search rules
