use Rattle.std.proofs.Common.{rules}
use Rattle.tks_event.proofs.lead.times_named.Goals as goal

pub returns-then-eq : goal.returns-then-eq
returns-then-eq = search rules
