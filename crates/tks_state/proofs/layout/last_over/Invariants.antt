use Rattle.std.proofs.Common.{◌≡◌, length}
use Rattle.tks_state.specs.Layout.{last_over}
use Rattle.tks_state.proofs.layout.last_over.Given as goal

-- the window is among those that are left, if there is one
abbrev pub invariant-loop-last : goal.invariant-loop-last
invariant-loop-last l = last_over l.rest l.column l.row ≡ last_over l.fn.shown l.fn.column l.fn.row

abbrev pub decreases-loop-last : goal.decreases-loop-last
decreases-loop-last l = length l.rest
