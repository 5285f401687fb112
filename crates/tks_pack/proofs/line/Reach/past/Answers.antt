use Rattle.std.proofs.Common.{rules}
use Rattle.tks_pack.proofs.line.Reach.past.Goals as goal

pub returns-else-lies_along : goal.returns-else-lies_along
returns-else-lies_along = search rules
