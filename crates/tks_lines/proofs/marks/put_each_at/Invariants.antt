use Rattle.std.proofs.Common.{◌≡◌, ◌++◌, take, drop, map}
use Rattle.tks_lines.specs.Lines.{put_at}
use Rattle.tks_lines.proofs.marks.put_each_at.Given as goal

-- those so far are put there
abbrev pub invariant-loop-mark : goal.invariant-loop-mark
invariant-loop-mark l = l.marks ≡ map (put_at l.name l.place) (take l.mark-index l.fn.marks) ++ drop l.mark-index l.fn.marks
