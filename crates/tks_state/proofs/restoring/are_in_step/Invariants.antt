use Rattle.std.proofs.Common.{◌≡◌, drop, length}
use Rattle.tks_state.specs.Restoring.{are_in_step}
use Rattle.tks_state.proofs.restoring.are_in_step.Given as goal

-- the others decide
abbrev pub invariant-loop-index : goal.invariant-loop-index
invariant-loop-index l =
    (length l.tree.windows ≡ length l.kept) × (are_in_step (drop l.index l.tree.windows) (drop l.index l.kept) ≡ are_in_step l.fn.tree.windows l.fn.kept)
