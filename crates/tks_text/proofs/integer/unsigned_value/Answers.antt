use Rattle.std.proofs.Common.{rules}
use Rattle.tks_text.proofs.integer.unsigned_value.Goals as goal

pub returns-in-48-2 : goal.returns-in-48-2
returns-in-48-2 = search rules
