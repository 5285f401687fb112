use Rattle.std.proofs.Common.{arith}
use Rattle.std.proofs.lemmas.Grind.{common_steps}
use Rattle.tks_parse.specs.Braces.{verbatim_step}
use Rattle.tks_parse.proofs.braces.next_verbatim.Goals as goal

pub returns-in-92-clause-gives : goal.returns-in-92-clause-gives
unfolding verbatim_step
returns-in-92-clause-gives c = grind (arith, common_steps)
