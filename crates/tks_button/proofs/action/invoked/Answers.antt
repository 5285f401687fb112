use Rattle.std.proofs.Common.{rules}
use Rattle.tks_button.proofs.action.invoked.Goals as goal

pub returns-then-is_disabled : goal.returns-then-is_disabled
returns-then-is_disabled = search rules

pub returns : goal.returns
returns = search rules
