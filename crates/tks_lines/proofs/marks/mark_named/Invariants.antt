use Rattle.std.proofs.Common.{◌≡◌, drop}
use Rattle.tks_lines.specs.Lines.{mark_named}
use Rattle.tks_lines.proofs.marks.mark_named.Given as goal

-- it is further on
abbrev pub invariant-loop-mark : goal.invariant-loop-mark
invariant-loop-mark l = mark_named l.name (drop l.mark-index l.marks) ≡ mark_named l.name l.marks
