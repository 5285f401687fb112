use Rattle.std.proofs.Common.{rules}
use Rattle.tks_tcl.proofs.codes.run_return.Goals as goal

pub returns-in-len1 : goal.returns-in-len1
returns-in-len1 = search rules
