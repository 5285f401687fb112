use Rattle.std.proofs.Common.{rules}
use Rattle.tks_event.proofs.keysym.first_sign.Goals as goal

pub returns-then-eq-2 : goal.returns-then-eq-2
returns-then-eq-2 = search rules
