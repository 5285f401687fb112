use Rattle.std.proofs.Common.{rules}
use Rattle.tks_opt.proofs.anchor.Anchor.named.Goals as goal

pub returns-then-eq-9 : goal.returns-then-eq-9
returns-then-eq-9 = search rules

pub returns-else-eq-9 : goal.returns-else-eq-9
returns-else-eq-9 = search rules
