use Rattle.std.proofs.Common.{◌≡◌, map, slice_index, if◌then◌else◌}
use Rattle.std.specs.List.{range_with_len}
use Rattle.tks_disk.specs.MemorySide.{touched}
use Rattle.tks_disk.proofs.memory_side.filled.Given as goal

abbrev pub invariant-loop-at : goal.invariant-loop-at
invariant-loop-at l = l.image.items ≡ map (λ k. if touched l.spans k then l.byte else slice_index l.bytes k) (range_with_len 0 l.at)
