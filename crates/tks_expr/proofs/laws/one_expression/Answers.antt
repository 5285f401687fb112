use Rattle.tks_expr.proofs.Spelled.{spells_expr_of}
use Rattle.tks_expr.proofs.laws.one_expression.Goals as goal

pub returns : goal.returns
returns c = spells_expr_of
