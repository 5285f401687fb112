use Rattle.std.proofs.Common.{rules}
use Rattle.tks_expr.proofs.operation.truth_of.Goals as goal

pub returns-in-Ok-Some : goal.returns-in-Ok-Some
returns-in-Ok-Some = search rules
