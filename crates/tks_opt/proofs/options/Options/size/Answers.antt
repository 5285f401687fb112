use Rattle.std.proofs.Common.{rules}
use Rattle.tks_opt.proofs.options.Options.size.Goals as goal

pub returns : goal.returns
returns = search rules
