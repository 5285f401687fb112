use Rattle.std.proofs.Common.{take}
use Rattle.tks_bind.specs.Throughs.{Gains}
use Rattle.tks_bind.proofs.through.with_sequences.Given as goal

-- those so far have joined
abbrev pub invariant-loop-sequence : goal.invariant-loop-sequence
invariant-loop-sequence l = Gains l.name (take l.sequence-index l.sequences) l.groups l.made
