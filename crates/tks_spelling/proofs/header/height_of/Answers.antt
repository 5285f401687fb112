use Rattle.std.proofs.Common.{rules}
use Rattle.tks_spelling.proofs.header.height_of.Goals as goal

pub returns : goal.returns
returns = search rules
