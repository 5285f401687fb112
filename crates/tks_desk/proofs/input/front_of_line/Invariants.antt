-- No newline was met.
use Rattle.std.proofs.Common.{◌≢◌, ◌≤◌, All, take}
use Rattle.tks_desk.proofs.input.front_of_line.Given as goal

abbrev pub invariant-loop-length : goal.invariant-loop-length
invariant-loop-length l = (l.length ≤ l.most) × All (λ b. b ≢ 10) (take l.length l.bytes)
