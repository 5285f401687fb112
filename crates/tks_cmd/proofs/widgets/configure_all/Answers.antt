use Rattle.std.proofs.Common.{rules}
use Rattle.tks_cmd.proofs.widgets.configure_all.Goals as goal

pub returns-in_err-configured-clause-err : goal.returns-in_err-configured-clause-err
returns-in_err-configured-clause-err = search rules
