use Rattle.std.proofs.Common.{rules}
use Rattle.tks_opt.proofs.options.Options.state.Goals as goal

pub returns-in_err-value : goal.returns-in_err-value
returns-in_err-value = search rules

pub returns : goal.returns
returns = search rules
