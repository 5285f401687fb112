use Rattle.std.proofs.Common.{◌≡◌, ◌+◌, drop}
use Rattle.tks_bind.specs.Indexes.{index_of}
use Rattle.tks_bind.proofs.tag_groups.place_of.Given as goal

-- none of those before is the one
abbrev pub invariant-loop-place : goal.invariant-loop-place
invariant-loop-place l = l.place + index_of l.tag l.sequence (drop l.place l.list) ≡ index_of l.tag l.sequence l.list
