use Rattle.std.proofs.Common.{rules}
use Rattle.tks_tree.proofs.window.WindowId.is_root.Goals as goal

pub returns : goal.returns
returns = search rules
