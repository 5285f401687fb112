use Rattle.std.proofs.Common.{◌≤◌, length}
use Rattle.tks_disk.proofs.file.read_at.Given as goal

abbrev pub invariant-loop : goal.invariant-loop
invariant-loop g l = l.filled ≤ length l.buf
