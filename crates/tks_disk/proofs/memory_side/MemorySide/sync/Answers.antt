use Rattle.std.proofs.Common.{rules}
use Rattle.tks_disk.proofs.memory_side.MemorySide.sync.Goals as goal

pub returns-clause-settled : goal.returns-clause-settled
returns-clause-settled = search rules
