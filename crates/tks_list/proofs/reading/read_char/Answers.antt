use Rattle.std.proofs.Common.{arith}
use Rattle.std.proofs.lemmas.Grind.{common_steps}
use Rattle.tks_list.specs.Reading.{char_step}
use Rattle.tks_list.proofs.reading.read_char.Goals as goal

pub returns-in-None-clause-gives : goal.returns-in-None-clause-gives
unfolding char_step
returns-in-None-clause-gives c = grind (arith, common_steps)
