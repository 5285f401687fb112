use Rattle.std.proofs.Common.{rules}
use Rattle.tks_vars.proofs.vars.Vars.get_global.Goals as goal

pub returns-in-Ok-clause-value : goal.returns-in-Ok-clause-value
returns-in-Ok-clause-value = search rules

pub returns-in-Err-clause-value : goal.returns-in-Err-clause-value
returns-in-Err-clause-value = search rules

pub returns-in-Err-clause-present : goal.returns-in-Err-clause-present
returns-in-Err-clause-present = search rules
