use Rattle.std.proofs.Common.{◌≡◌, ◌≤◌, length, drop}
use Rattle.tks_app.specs.Memories.{first_memories}
use Rattle.tks_app.proofs.memories.Memories.first.Given as goal

-- the memories of the names further on
abbrev pub invariant-loop-index : goal.invariant-loop-index
invariant-loop-index l = (l.index ≤ length l.fn.names) × (l.texts ≡ first_memories (drop l.index l.fn.names))

abbrev pub decreases-loop-index : goal.decreases-loop-index
decreases-loop-index l = l.index
