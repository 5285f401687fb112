use Rattle.std.proofs.Common.{◌≡◌, ◌++◌}
use Rattle.tks_bind.proofs.ring.RingCopied.copied.Given as goal

-- those so far and those further on are all
abbrev pub invariant-loop-event : goal.invariant-loop-event
invariant-loop-event l = l.copy ++ l.event-iterator ≡ l.self
