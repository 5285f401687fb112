use Rattle.std.proofs.Common.{rules}
use Rattle.tks_tree.proofs.tree.Tree.check_path.Goals as goal

pub returns : goal.returns
returns = search rules
