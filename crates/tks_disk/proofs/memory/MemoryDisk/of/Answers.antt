use Rattle.std.proofs.Common.{rules}
use Rattle.tks_disk.proofs.memory.MemoryDisk.of.Goals as goal

pub returns : goal.returns
returns = search rules
