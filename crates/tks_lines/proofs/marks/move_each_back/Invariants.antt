use Rattle.std.proofs.Common.{◌≡◌, ◌++◌, take, drop, map}
use Rattle.tks_lines.specs.Lines.{moved_back}
use Rattle.tks_lines.proofs.marks.move_each_back.Given as goal

-- those so far are moved
abbrev pub invariant-loop-mark : goal.invariant-loop-mark
invariant-loop-mark l = l.marks ≡ map (moved_back l.first l.last) (take l.mark-index l.fn.marks) ++ drop l.mark-index l.fn.marks
