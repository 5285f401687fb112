use Rattle.std.proofs.Common.{◌≡◌, ◌++◌, drop}
use Rattle.tks_button.specs.Checkbutton.{mark}
use Rattle.tks_button.proofs.Marks.{indented}
use Rattle.tks_button.proofs.mark.marked_text.Given as goal

-- the block so far, with what comes of the rest, is all of it
abbrev pub invariant-loop-byte : goal.invariant-loop-byte
invariant-loop-byte l = l.block.items ++ indented (drop l.byte-index l.text) ≡ mark l.on ++ indented l.text
