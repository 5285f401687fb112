use Rattle.std.proofs.Common.{◌≡◌, take}
use Rattle.tks_event.proofs.sequence.cloned.Given as goal

abbrev pub invariant-loop-pattern : goal.invariant-loop-pattern
invariant-loop-pattern l = l.copy.items ≡ take l.pattern-index l.patterns
