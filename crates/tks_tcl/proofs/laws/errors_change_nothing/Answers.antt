use Rattle.tks_tcl.proofs.Erring.{errors_leave_all}
use Rattle.tks_tcl.proofs.laws.errors_change_nothing.Goals as goal

pub returns : goal.returns
returns c = errors_leave_all
