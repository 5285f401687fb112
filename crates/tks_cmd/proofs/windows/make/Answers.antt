use Rattle.std.proofs.Common.{rules}
use Rattle.tks_cmd.proofs.windows.make.Goals as goal

pub returns-in_err-widget-clause-value : goal.returns-in_err-widget-clause-value
returns-in_err-widget-clause-value = search rules
