use Rattle.std.proofs.Common.{rules}
use Rattle.tks_disk.proofs.memory_side.MemorySide.read_at.Goals as goal

pub returns-then-at-bytes : goal.returns-then-at-bytes
returns-then-at-bytes = search rules
