use Rattle.std.proofs.Common.{◌≡◌, ℕ}
use Rattle.std.specs.BTreeMap.{get}
use Rattle.std.specs.Ordering.{nat_cmp}
use Rattle.tks_codec_windows.specs.Places.{or_else, packed_as}
use Rattle.tks_codec.specs.Windows.{packings_of}
use Rattle.tks_codec.proofs.windows.packed_by_number.Given as goal

-- those so far, and then the others
abbrev pub invariant-loop-one : goal.invariant-loop-one
invariant-loop-one l = (n : ℕ) → or_else (get nat_cmp l.packed n) (packed_as (packings_of l.one-iterator) n) ≡ packed_as (packings_of l.fn.kept) n
