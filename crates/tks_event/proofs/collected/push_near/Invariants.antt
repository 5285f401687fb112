use Rattle.std.proofs.Common.{◌≡◌, ◌++◌, false}
use Rattle.tks_event.specs.Sequences.{near_ones}
use Rattle.tks_event.specs.View.{pattern_seen, standing}
use Rattle.tks_event.proofs.collected.push_near.Given as goal

abbrev pub invariant-loop-done : goal.invariant-loop-done
invariant-loop-done l = l.patterns.items ≡ l.fn.patterns.items ++ near_ones (standing false (pattern_seen l.written)) l.done
