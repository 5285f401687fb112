use Rattle.std.proofs.Common.{◌≡◌, ◌++◌, take, drop, map}
use Rattle.tks_lines.specs.Lines.{turned}
use Rattle.tks_lines.proofs.marks.turn_each.Given as goal

-- those so far are turned
abbrev pub invariant-loop-mark : goal.invariant-loop-mark
invariant-loop-mark l = l.marks ≡ map (turned l.name l.left) (take l.mark-index l.fn.marks) ++ drop l.mark-index l.fn.marks
