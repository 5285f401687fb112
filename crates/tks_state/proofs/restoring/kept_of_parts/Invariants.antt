use Rattle.std.proofs.Common.{◌≡◌, ◌++◌, drop}
use Rattle.tks_state.specs.Restoring.{kept_of_parts}
use Rattle.tks_state.proofs.restoring.kept_of_parts.Given as goal

-- those so far, and what comes of the others
abbrev pub invariant-loop-index : goal.invariant-loop-index
invariant-loop-index l =
    l.kept ++ kept_of_parts (drop l.index l.tree.windows) l.parts.rest.items ≡ kept_of_parts l.fn.tree.windows l.fn.parts.items
