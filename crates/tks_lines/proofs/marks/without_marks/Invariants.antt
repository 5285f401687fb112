use Rattle.std.proofs.Common.{◌≡◌, ◌++◌, drop}
use Rattle.tks_lines.specs.Lines.{without_marks}
use Rattle.tks_lines.proofs.marks.without_marks.Given as goal

-- those so far, and those that are left further on, are all
abbrev pub invariant-loop-mark : goal.invariant-loop-mark
invariant-loop-mark l = l.all ++ without_marks l.names (drop l.mark-index l.marks) ≡ without_marks l.names l.marks
