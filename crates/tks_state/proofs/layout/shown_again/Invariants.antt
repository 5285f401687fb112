use Rattle.std.proofs.Common.{◌≡◌, take}
use Rattle.tks_state.proofs.layout.shown_again.Given as goal

-- the windows so far
abbrev pub invariant-loop-placed : goal.invariant-loop-placed
invariant-loop-placed l = l.again.items ≡ take l.placed-index l.shown
