use Rattle.std.proofs.Common.{◌≡◌, drop}
use Rattle.std.specs.List.{list_all}
use Rattle.tks_limits.specs.Within.{sequence_fits}
use Rattle.tks_cmd.proofs.virtual_events.details_fit.Given as goal

-- the others decide
abbrev pub invariant-loop-sequence : goal.invariant-loop-sequence
invariant-loop-sequence l = list_all (sequence_fits l.limits) (drop l.sequence-index l.sequences) ≡ list_all (sequence_fits l.fn.limits) l.fn.sequences
