use Rattle.std.proofs.Common.{rules}
use Rattle.tks_opt.proofs.alignment.Alignment.gap.Goals as goal

pub returns-in-Middle-clause-value : goal.returns-in-Middle-clause-value
returns-in-Middle-clause-value = search rules
