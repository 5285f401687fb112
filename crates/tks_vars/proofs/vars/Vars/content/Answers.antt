use Rattle.std.proofs.Common.{rules}
use Rattle.tks_vars.proofs.vars.Vars.content.Goals as goal

pub returns-in-Some-Link : goal.returns-in-Some-Link
returns-in-Some-Link = search rules
