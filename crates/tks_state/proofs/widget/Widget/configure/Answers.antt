use Rattle.std.proofs.Common.{rules}
use Rattle.tks_state.proofs.widget.Widget.configure.Goals as goal

pub returns-in_ok-configure-in-Caption-clause-value : goal.returns-in_ok-configure-in-Caption-clause-value
returns-in_ok-configure-in-Caption-clause-value = search rules
