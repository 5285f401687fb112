use Rattle.std.proofs.Common.{rules}
use Rattle.tks_text.proofs.size.Size.width.Goals as goal

pub returns : goal.returns
returns = search rules
