use Rattle.std.proofs.Common.{◌≡◌, ◌++◌, drop}
use Rattle.tks_pack.specs.Packing.{areas}
use Rattle.tks_pack.proofs.packing.areas.Given as goal

abbrev pub invariant-loop-across : goal.invariant-loop-across
invariant-loop-across l = l.areas.items ++ areas (drop l.across-index l.horizontal) l.down ≡ areas l.horizontal l.vertical
