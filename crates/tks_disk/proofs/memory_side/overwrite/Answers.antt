use Rattle.std.proofs.Common.{arith}
use Rattle.std.proofs.lemmas.Grind.{elements}
use Rattle.tks_disk.proofs.memory_side.overwrite.Goals as goal

pub returns-clause-written : goal.returns-clause-written
returns-clause-written c = grind (arith, elements)

pub returns-clause-torn : goal.returns-clause-torn
returns-clause-torn c = grind (arith, elements)
