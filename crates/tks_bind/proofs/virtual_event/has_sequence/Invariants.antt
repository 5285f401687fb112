use Rattle.std.proofs.Common.{◌≡◌, drop}
use Rattle.tks_bind.specs.VirtualEvents.{has_sequence}
use Rattle.tks_bind.proofs.virtual_event.has_sequence.Given as goal

-- what is looked for is further on
abbrev pub invariant-loop-found : goal.invariant-loop-found
invariant-loop-found l = has_sequence l.sequence (drop l.found-index l.sequences) ≡ has_sequence l.sequence l.sequences
