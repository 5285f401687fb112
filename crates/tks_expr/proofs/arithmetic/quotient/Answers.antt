use Rattle.std.proofs.Common.{rules}
use Rattle.tks_expr.proofs.arithmetic.quotient.Goals as goal

pub returns-else-right-lt0 : goal.returns-else-right-lt0
returns-else-right-lt0 = search rules
