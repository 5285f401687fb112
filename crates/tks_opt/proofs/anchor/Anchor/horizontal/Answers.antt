use Rattle.std.proofs.Common.{rules}
use Rattle.tks_opt.proofs.anchor.Anchor.horizontal.Goals as goal

pub returns-in-East : goal.returns-in-East
returns-in-East = search rules
