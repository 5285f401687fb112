use Rattle.std.proofs.Common.{◌≡◌, drop}
use Rattle.tks_state.specs.Events.{without_those_of_all}
use Rattle.tks_state.proofs.events.drop_all.Given as goal

-- without those further on too, all go
abbrev pub invariant-loop-window : goal.invariant-loop-window
invariant-loop-window l = without_those_of_all l.tree.windows (drop l.window-index l.windows) l.bindings ≡ without_those_of_all l.fn.tree.windows l.fn.windows l.fn.bindings
