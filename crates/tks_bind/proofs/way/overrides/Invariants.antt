use Rattle.std.proofs.Common.{◌≡◌, take, []}
use Rattle.tks_bind.specs.Occurs.{turned}
use Rattle.tks_bind.specs.Beating.{overrides}
use Rattle.tks_bind.proofs.way.overrides.Given as goal

-- the answer is that of those so far
abbrev pub invariant-loop-place : goal.invariant-loop-place
invariant-loop-place l = l.answer ≡ overrides (turned (take l.place l.patterns) []) (turned (take l.place l.others) [])
