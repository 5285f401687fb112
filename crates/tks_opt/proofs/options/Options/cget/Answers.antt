use Rattle.std.proofs.Common.{rules}
use Rattle.tks_opt.proofs.options.Options.cget.Goals as goal

pub returns-in-Some-value : goal.returns-in-Some-value
returns-in-Some-value = search rules

pub returns-in-None : goal.returns-in-None
returns-in-None = search rules
