use Rattle.std.proofs.Common.{rules}
use Rattle.tks_tree.proofs.window.WindowId.of.Goals as goal

pub returns : goal.returns
returns = search rules
