use Rattle.std.proofs.Common.{ap, map}
use Rattle.std.specs.BTreeSet.{contains}
use Rattle.std.specs.Ordering.{nat_cmp}
use Rattle.tks_state.proofs.Distinct.{all_new}
use Rattle.tks_state.proofs.restoring.are_distinct.Goals as goal

-- none was seen
pub loop-content-init : goal.loop-content-init
loop-content-init c =
    rw c.into_iter-content-iterator.ensures.into_iter_gives
    (all_new (contains nat_cmp c.new-seen.result) (λ n. ap (λ keys. contains nat_cmp (record { keys = keys }) n) c.new-seen.ensures.empty) (map (λ x. x.window) c.args.contents))
