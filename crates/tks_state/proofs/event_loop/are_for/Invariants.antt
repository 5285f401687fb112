use Rattle.std.proofs.Common.{◌≡◌}
use Rattle.std.specs.List.{list_all}
use Rattle.tks_state.specs.EventLoop.{is_for}
use Rattle.tks_state.proofs.event_loop.are_for.Given as goal

-- the others decide
abbrev pub invariant-loop-queued : goal.invariant-loop-queued
invariant-loop-queued l = list_all (is_for l.tree.windows) l.queued-iterator ≡ list_all (is_for l.fn.tree.windows) l.fn.events
