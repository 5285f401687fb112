use Rattle.std.proofs.Common.{◌≡◌, map}
use Rattle.std.specs.BTreeSet.{contains}
use Rattle.std.specs.Ordering.{nat_cmp}
use Rattle.tks_state.specs.Restoring.{are_distinct}
use Rattle.tks_state.proofs.Distinct.{are_new}
use Rattle.tks_state.proofs.restoring.are_distinct.Given as goal

-- the others decide, by those that were seen
abbrev pub invariant-loop-content : goal.invariant-loop-content
invariant-loop-content l = are_new (contains nat_cmp l.seen) (map (λ c. c.window) l.content-iterator) ≡ are_distinct (map (λ c. c.window) l.fn.contents)
