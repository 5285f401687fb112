use Rattle.std.proofs.Common.{rules}
use Rattle.tks_disk.proofs.memory_side.MemorySide.left.Goals as goal

pub returns-in_ok-to_vec-in-Old : goal.returns-in_ok-to_vec-in-Old
returns-in_ok-to_vec-in-Old = search rules
