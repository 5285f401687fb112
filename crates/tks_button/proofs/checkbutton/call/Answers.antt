use Rattle.std.proofs.Common.{rules}
use Rattle.tks_button.proofs.checkbutton.call.Goals as goal

pub returns-in_ok-said-in-Some-Invoke-clause-value : goal.returns-in_ok-said-in-Some-Invoke-clause-value
returns-in_ok-said-in-Some-Invoke-clause-value = search rules
