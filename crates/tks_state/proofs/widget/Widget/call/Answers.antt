use Rattle.std.proofs.Common.{rules}
use Rattle.tks_state.proofs.widget.Widget.call.Goals as goal

pub returns-in_err-said-in-Caption-clause-value : goal.returns-in_err-said-in-Caption-clause-value
returns-in_err-said-in-Caption-clause-value = search rules
