use Rattle.std.proofs.Common.{rules}
use Rattle.tks_opt.proofs.anchor.Anchor.numbered.Goals as goal

pub returns-in-8 : goal.returns-in-8
returns-in-8 = search rules
