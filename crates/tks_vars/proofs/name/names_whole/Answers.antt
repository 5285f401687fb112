use Rattle.std.proofs.Common.{rules}
use Rattle.tks_vars.proofs.name.names_whole.Goals as goal

pub returns-in-Some : goal.returns-in-Some
returns-in-Some = search rules
