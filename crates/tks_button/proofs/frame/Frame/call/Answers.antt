use Rattle.std.proofs.Common.{rules}
use Rattle.tks_button.proofs.frame.Frame.call.Goals as goal

pub returns-in_err-said-clause-value : goal.returns-in_err-said-clause-value
returns-in_err-said-clause-value = search rules
