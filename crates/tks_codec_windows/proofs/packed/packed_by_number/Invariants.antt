use Rattle.std.proofs.Common.{◌≡◌, ℕ, drop}
use Rattle.std.specs.BTreeMap.{get}
use Rattle.std.specs.Ordering.{nat_cmp}
use Rattle.tks_codec_windows.specs.Places.{or_else, packed_as}
use Rattle.tks_codec_windows.proofs.packed.packed_by_number.Given as goal

-- those so far, and then the others
abbrev pub invariant-loop-packing : goal.invariant-loop-packing
invariant-loop-packing l = (n : ℕ) → or_else (get nat_cmp l.packed n) (packed_as (drop l.packing-index l.packings) n) ≡ packed_as l.fn.packings n
