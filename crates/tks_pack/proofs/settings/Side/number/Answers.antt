use Rattle.std.proofs.Common.{rules}
use Rattle.tks_pack.proofs.settings.Side.number.Goals as goal

pub returns-in-Left : goal.returns-in-Left
returns-in-Left = search rules
