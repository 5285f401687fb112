use Rattle.std.proofs.Common.{rules}
use Rattle.tks_expr.proofs.parse.with_links.Goals as goal

pub returns : goal.returns
returns = search rules
