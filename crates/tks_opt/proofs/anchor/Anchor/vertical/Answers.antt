use Rattle.std.proofs.Common.{rules}
use Rattle.tks_opt.proofs.anchor.Anchor.vertical.Goals as goal

pub returns-in-South : goal.returns-in-South
returns-in-South = search rules
