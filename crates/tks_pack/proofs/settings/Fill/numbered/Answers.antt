use Rattle.std.proofs.Common.{rules}
use Rattle.tks_pack.proofs.settings.Fill.numbered.Goals as goal

pub returns-in-1 : goal.returns-in-1
returns-in-1 = search rules
