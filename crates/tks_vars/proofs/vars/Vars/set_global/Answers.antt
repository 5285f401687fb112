use Rattle.std.proofs.Common.{rules}
use Rattle.tks_vars.proofs.vars.Vars.set_global.Goals as goal

pub returns-clause-value : goal.returns-clause-value
returns-clause-value = search rules
