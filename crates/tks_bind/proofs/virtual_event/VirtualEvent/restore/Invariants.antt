use Rattle.std.proofs.Common.{◌≡◌, ◌++◌, length}
use Rattle.std.specs.Vec.Iter.{into_iter_items, into_iter_len}
use Rattle.tks_bind.proofs.virtual_event.VirtualEvent.restore.Given as goal

-- those so far and those further on are all
abbrev pub invariant-loop-sequence : goal.invariant-loop-sequence
invariant-loop-sequence l = record {
  left : into_iter_len l.sequence-iterator ≡ length (into_iter_items l.sequence-iterator);
  all : l.kept ++ into_iter_items l.sequence-iterator ≡ l.fn.sequences.items;
}
