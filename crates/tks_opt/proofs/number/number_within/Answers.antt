use Rattle.std.proofs.Common.{rules}
use Rattle.tks_opt.proofs.number.number_within.Goals as goal

pub returns-in_default : goal.returns-in_default
returns-in_default = search rules
