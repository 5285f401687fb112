use Rattle.std.proofs.Common.{rules}
use Rattle.tks_tree.proofs.tree.Tree.previous_in_focus_order.Goals as goal

pub returns : goal.returns
returns = search rules
