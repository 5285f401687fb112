use Rattle.std.proofs.Common.{rules}
use Rattle.tks_tree.proofs.tree.Tree.next.Goals as goal

pub returns : goal.returns
returns = search rules
