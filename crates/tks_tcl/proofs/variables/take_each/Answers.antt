use Rattle.std.proofs.Common.{rules}
use Rattle.tks_tcl.proofs.variables.take_each.Goals as goal

pub returns-in_err-take_all-clause-err : goal.returns-in_err-take_all-clause-err
returns-in_err-take_all-clause-err = search rules
