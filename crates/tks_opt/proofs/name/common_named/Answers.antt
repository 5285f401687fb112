use Rattle.std.proofs.Common.{rules}
use Rattle.tks_opt.proofs.name.common_named.Goals as goal

pub returns-then-eq-2 : goal.returns-then-eq-2
returns-then-eq-2 = search rules

pub returns-else-eq-9 : goal.returns-else-eq-9
returns-else-eq-9 = search rules
