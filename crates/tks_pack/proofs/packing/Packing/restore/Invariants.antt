use Rattle.std.proofs.Common.{◌≡◌, ◌++◌, length}
use Rattle.std.specs.Vec.Iter.{into_iter_items, into_iter_len}
use Rattle.tks_pack.proofs.packing.Packing.restore.Given as goal

-- those so far and those further on are all
abbrev pub invariant-loop-content : goal.invariant-loop-content
invariant-loop-content l = record {
  left : into_iter_len l.content-iterator ≡ length (into_iter_items l.content-iterator);
  all : l.packing.contents ++ into_iter_items l.content-iterator ≡ l.fn.contents.items;
}
