use Rattle.std.proofs.Common.{◌≡◌, map}
use Rattle.std.specs.List.{list_all}
use Rattle.tks_tree.specs.Windows.{parent}
use Rattle.tks_state.specs.Restoring.{is_number}
use Rattle.tks_state.proofs.restoring.are_children.Given as goal

-- the others decide
abbrev pub invariant-loop-content : goal.invariant-loop-content
invariant-loop-content l =
    list_all (λ n. is_number l.container (parent l.tree n)) (map (λ c. c.window) l.content-iterator)
    ≡ list_all (λ n. is_number l.fn.container (parent l.fn.tree n)) (map (λ c. c.window) l.fn.contents)
