use Rattle.std.proofs.Common.{rules}
use Rattle.tks_vars.proofs.vars.Vars.set_procedure.Goals as goal

pub returns-clause-ok : goal.returns-clause-ok
returns-clause-ok = search rules
