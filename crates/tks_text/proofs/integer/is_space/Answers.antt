use Rattle.std.proofs.Common.{rules}
use Rattle.tks_text.proofs.integer.is_space.Goals as goal

pub returns-else-byte-eq9 : goal.returns-else-byte-eq9
returns-else-byte-eq9 = search rules
