use Rattle.std.proofs.Common.{◌≡◌, ◌+◌, ◌<◌, length, drop, slice_get, Some}
use Rattle.tks_event.specs.declared.pattern.Pattern.{Pattern}
use Rattle.tks_bind.specs.Search.{Tells}
use Rattle.tks_bind.proofs.search.are_chosen.Given as goal

-- the row tells where this pattern may begin, with those behind it
abbrev pub invariant-loop-at : goal.invariant-loop-at
invariant-loop-at l = (p : Pattern) × (slice_get l.sequence l.at ≡ Some p) × (l.at < length l.sequence) × Tells l.row p (drop (l.at + 1) l.sequence) l.history

abbrev pub decreases-loop-at : goal.decreases-loop-at
decreases-loop-at l = l.at
