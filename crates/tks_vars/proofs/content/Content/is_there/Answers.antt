use Rattle.std.proofs.Common.{rules}
use Rattle.tks_vars.proofs.content.Content.is_there.Goals as goal

pub returns-in-Array-Some : goal.returns-in-Array-Some
returns-in-Array-Some = search rules
