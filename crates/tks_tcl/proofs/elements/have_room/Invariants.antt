use Rattle.std.proofs.Common.{◌≡◌, ◌+◌, drop}
use Rattle.tks_tcl.specs.Room.{room_of}
use Rattle.tks_tcl.proofs.elements.have_room.Given as goal

abbrev pub invariant-loop-index : goal.invariant-loop-index
invariant-loop-index l = l.left + room_of l.more l.list ≡ l.fn.room + room_of l.more (drop l.index l.list)
