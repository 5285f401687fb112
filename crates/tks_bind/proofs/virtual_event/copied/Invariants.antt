use Rattle.std.proofs.Common.{◌≡◌, take}
use Rattle.tks_bind.proofs.virtual_event.copied.Given as goal

abbrev pub invariant-loop-sequence : goal.invariant-loop-sequence
invariant-loop-sequence l = l.copy ≡ take l.sequence-index l.sequences
