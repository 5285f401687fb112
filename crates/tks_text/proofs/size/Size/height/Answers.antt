use Rattle.std.proofs.Common.{rules}
use Rattle.tks_text.proofs.size.Size.height.Goals as goal

pub returns : goal.returns
returns = search rules
