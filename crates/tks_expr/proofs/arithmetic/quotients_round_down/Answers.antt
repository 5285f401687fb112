use Rattle.tks_expr.proofs.Divisions.{only_pair}
use Rattle.tks_expr.proofs.arithmetic.quotients_round_down.Goals as goal

pub returns : goal.returns
returns c = only_pair
