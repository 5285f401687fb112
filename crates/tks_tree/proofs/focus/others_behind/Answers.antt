use Rattle.std.proofs.Common.{rules}
use Rattle.tks_tree.proofs.focus.others_behind.Goals as goal

pub returns : goal.returns
returns = search rules
