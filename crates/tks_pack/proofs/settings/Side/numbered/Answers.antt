use Rattle.std.proofs.Common.{rules}
use Rattle.tks_pack.proofs.settings.Side.numbered.Goals as goal

pub returns-in-2 : goal.returns-in-2
returns-in-2 = search rules
