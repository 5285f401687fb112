use Rattle.std.proofs.Common.{rules}
use Rattle.tks_expr.proofs.sign.Join.level.Goals as goal

pub returns-in-And : goal.returns-in-And
returns-in-And = search rules
