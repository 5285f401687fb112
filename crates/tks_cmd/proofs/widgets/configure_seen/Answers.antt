use Rattle.std.proofs.Common.{rules}
use Rattle.tks_cmd.proofs.widgets.configure_seen.Goals as goal

pub returns-in_err-configure-clause-value : goal.returns-in_err-configure-clause-value
returns-in_err-configure-clause-value = search rules

pub returns-clause-value : goal.returns-clause-value
returns-clause-value = search rules
