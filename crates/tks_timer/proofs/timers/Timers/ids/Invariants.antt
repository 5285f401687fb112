use Rattle.std.proofs.Common.{◌≡◌, ◌++◌, map}
use Rattle.tks_timer.specs.After.{ids}
use Rattle.tks_timer.proofs.timers.Timers.ids.Given as goal

-- those so far, and those further on, are all
abbrev pub invariant-loop-timer : goal.invariant-loop-timer
invariant-loop-timer l = l.found.items ++ map (λ t. t.id) l.timer-iterator ≡ map (λ t. t.id) l.self.timers

abbrev pub invariant-loop-idle : goal.invariant-loop-idle
invariant-loop-idle l = l.found.items ++ map (λ i. i.id) l.idle-iterator ≡ ids l.self
