use Rattle.std.proofs.Common.{◌≡◌, drop}
use Rattle.std.specs.List.{list_all}
use Rattle.tks_limits.specs.Within as kinds
use Rattle.tks_limits.proofs.events.sequences_fit.Given as goal

-- the others decide
abbrev pub invariant-loop-sequence : goal.invariant-loop-sequence
invariant-loop-sequence l = list_all (kinds.sequence_fits l.limits) (drop l.sequence-index l.sequences) ≡ list_all (kinds.sequence_fits l.fn.limits) l.fn.sequences
