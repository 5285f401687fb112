use Rattle.std.proofs.Common.{◌≡◌, ◌++◌, length}
use Rattle.std.specs.Vec.Iter.{into_iter_items, into_iter_len}
use Rattle.tks_share.proofs.list.SharedList.of.Given as goal

-- those so far and those further on are all
abbrev pub invariant-loop-item : goal.invariant-loop-item
invariant-loop-item g l = record {
  left : into_iter_len l.item-iterator ≡ length (into_iter_items l.item-iterator);
  all : l.list ++ into_iter_items l.item-iterator ≡ l.fn.items.items;
}
