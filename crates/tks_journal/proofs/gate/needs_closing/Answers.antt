use Rattle.std.proofs.Common.{arith}
use Rattle.std.proofs.lemmas.Grind.{common_steps}
use Rattle.tks_journal.proofs.gate.needs_closing.Goals as goal

pub returns-clause-closes : goal.returns-clause-closes
returns-clause-closes g c = grind (arith, common_steps)
