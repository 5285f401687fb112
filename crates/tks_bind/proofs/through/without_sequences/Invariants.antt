use Rattle.std.proofs.Common.{take}
use Rattle.tks_bind.specs.Throughs.{ArePlaced, Drops}
use Rattle.tks_bind.proofs.through.without_sequences.Given as goal

-- those so far are gone
abbrev pub invariant-loop-sequence : goal.invariant-loop-sequence
invariant-loop-sequence l = ArePlaced l.groups → Drops l.name (take l.sequence-index l.sequences) l.groups l.made
