use Rattle.std.proofs.Common.{rules}
use Rattle.tks_opt.proofs.state.State.named.Goals as goal

pub returns-then-eq-3 : goal.returns-then-eq-3
returns-then-eq-3 = search rules

pub returns-else-eq-4 : goal.returns-else-eq-4
returns-else-eq-4 = search rules
