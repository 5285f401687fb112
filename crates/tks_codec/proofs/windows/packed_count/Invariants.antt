use Rattle.std.proofs.Common.{◌≡◌, ◌+◌, ◌<◌, ◌^◌}
use Rattle.tks_spelling.specs.Lengths.{counted}
use Rattle.tks_codec.specs.Windows.{packed_count}
use Rattle.tks_codec.proofs.windows.packed_count.Given as goal

-- those so far and those further on are all
abbrev pub invariant-loop-one : goal.invariant-loop-one
invariant-loop-one l = (l.sum < 2 ^ 64) × (counted (l.sum + packed_count l.one-iterator) ≡ counted (packed_count l.fn.kept))
