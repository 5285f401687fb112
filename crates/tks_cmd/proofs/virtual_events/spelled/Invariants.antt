use Rattle.std.proofs.Common.{◌≡◌, ◌++◌, drop}
use Rattle.tks_cmd.specs.VirtualEvents.{spelled}
use Rattle.tks_cmd.proofs.virtual_events.spelled.Given as goal

-- those so far, and those further on, are all
abbrev pub invariant-loop-sequence : goal.invariant-loop-sequence
invariant-loop-sequence l = l.texts ++ spelled (drop l.sequence-index l.sequences) ≡ spelled l.sequences
