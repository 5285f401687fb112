use Rattle.std.proofs.Common.{ℕ, ◌+◌, ◌≡◌, ◌++◌, ◌∷◌, [], slice_index, if◌then◌else◌, map, arith}
use Rattle.std.specs.List.{range_with_len}
use Rattle.std.proofs.lemmas.List.FromFn.{map-range_with_len_more}
use Rattle.tks_disk.specs.MemorySide.{touched}
use Rattle.tks_disk.proofs.memory_side.filled.Goals as goal

pub loop-at-preserved : goal.loop-at-preserved
loop-at-preserved c =
    let f : ℕ → ℕ = λ k. if touched c.args.spans.now k then c.args.byte else slice_index c.args.bytes.now k in
    let more : map f (range_with_len 0 (c.loop-at.at + 1)) ≡ map f (range_with_len 0 c.loop-at.at) ++ f c.loop-at.at ∷ [] = map-range_with_len_more f 0 c.loop-at.at c.loop-at.at (omega arith) in
    cc (more, c.in_ok-push.ensures.items, c.left_in.ensures)
