use Rattle.std.proofs.Common.{◌≡◌, ◌++◌, drop}
use Rattle.tks_lines.proofs.marks.copied.Given as goal

-- those so far, and those further on, are all
abbrev pub invariant-loop-mark : goal.invariant-loop-mark
invariant-loop-mark l = l.all ++ drop l.mark-index l.marks ≡ l.marks
