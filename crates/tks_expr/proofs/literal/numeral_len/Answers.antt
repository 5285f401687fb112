use Rattle.std.proofs.Common.{arith}
use Rattle.std.proofs.lemmas.Grind.{common_steps}
use Rattle.tks_expr.specs.Literal.{numeral_len}
use Rattle.tks_expr.proofs.literal.numeral_len.Goals as goal

pub returns-in-48-3-clause-value : goal.returns-in-48-3-clause-value
unfolding numeral_len
returns-in-48-3-clause-value c = grind (arith, common_steps)
