use Rattle.std.proofs.Common.{rules}
use Rattle.tks_event.proofs.keysym.is_modifier_key.Goals as goal

pub returns-else-eq-6 : goal.returns-else-eq-6
returns-else-eq-6 = search rules
