use Rattle.std.proofs.Common.{rules}
use Rattle.tks_opt.proofs.anchor.Anchor.number.Goals as goal

pub returns-in-NorthWest : goal.returns-in-NorthWest
returns-in-NorthWest = search rules
