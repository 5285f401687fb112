use Rattle.std.proofs.Common.{◌≡◌, ◌+◌, drop}
use Rattle.tks_tcl.specs.Room.{room_of}
use Rattle.tks_tcl.proofs.Lengths.{kept}
use Rattle.tks_tcl.proofs.lists.concatenated_fits.Given as goal

abbrev pub invariant-loop-word : goal.invariant-loop-word
invariant-loop-word l = l.left + room_of 1 (kept l.words) ≡ l.limits.text + 1 + room_of 1 (kept (drop l.word-index l.words))
