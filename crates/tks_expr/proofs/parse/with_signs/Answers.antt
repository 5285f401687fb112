use Rattle.std.proofs.Common.{arith}
use Rattle.tks_expr.proofs.Operands.{under_push}
use Rattle.tks_expr.proofs.parse.with_signs.Goals as goal

pub returns-in_ok-signed-in-Some : goal.returns-in_ok-signed-in-Some
returns-in_ok-signed-in-Some c = grind (arith, under_push)
