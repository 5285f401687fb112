use Rattle.std.proofs.Common.{arith, rules}
use Rattle.tks_parse.proofs.Faults.{spells_at}
use Rattle.tks_parse.proofs.reading.parse.Goals as goal

pub returns-clause-script : goal.returns-clause-script
returns-clause-script = search rules

pub returns-clause-spelled : goal.returns-clause-spelled
returns-clause-spelled c = grind (arith, spells_at)
