use Rattle.std.proofs.Common.{◌≡◌, ◌+◌, drop}
use Rattle.tks_tcl.specs.Room.{room_of}
use Rattle.tks_tcl.proofs.room.have_room.Given as goal

abbrev pub invariant-loop-text : goal.invariant-loop-text
invariant-loop-text l = l.left + room_of l.more l.texts ≡ l.fn.room + room_of l.more (drop l.text-index l.texts)
