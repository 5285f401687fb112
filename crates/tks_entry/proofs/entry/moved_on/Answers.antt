use Rattle.std.proofs.Common.{rules}
use Rattle.tks_entry.proofs.entry.moved_on.Goals as goal

pub returns-else-place-cursor : goal.returns-else-place-cursor
returns-else-place-cursor = search rules
