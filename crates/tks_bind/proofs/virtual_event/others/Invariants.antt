use Rattle.std.proofs.Common.{◌≡◌, ◌++◌, drop}
use Rattle.tks_bind.specs.VirtualEvents.{other_sequences}
use Rattle.tks_bind.proofs.virtual_event.others.Given as goal

-- those so far, and those further on, are all
abbrev pub invariant-loop-found : goal.invariant-loop-found
invariant-loop-found l = l.left ++ other_sequences l.sequence (drop l.found-index l.sequences) ≡ other_sequences l.sequence l.sequences
