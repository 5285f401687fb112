use Rattle.std.proofs.Common.{◌≡◌, ◌++◌, length}
use Rattle.std.specs.Vec.Iter.{into_iter_items, into_iter_len}
use Rattle.tks_bind.specs.History.{latest}
use Rattle.tks_bind.proofs.ring.Ring.of.Given as goal

-- the latest of those so far and those further on are those of all
abbrev pub invariant-loop-event : goal.invariant-loop-event
invariant-loop-event l = record {
  left : into_iter_len l.event-iterator ≡ length (into_iter_items l.event-iterator);
  all : latest (l.ring ++ into_iter_items l.event-iterator) ≡ latest l.fn.events.items;
}
