use Rattle.std.proofs.Common.{arith, rules}
use Rattle.std.proofs.lemmas.Grind.{common_steps}
use Rattle.tks_tree.proofs.tree.Tree.children.Goals as goal

pub loop-window-preserved-in-Continue-1 : goal.loop-window-preserved-in-Continue-1
loop-window-preserved-in-Continue-1 c = grind (arith, common_steps)

pub loop-window-preserved : goal.loop-window-preserved
loop-window-preserved = search rules
