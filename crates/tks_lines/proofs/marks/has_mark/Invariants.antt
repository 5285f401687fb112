use Rattle.std.proofs.Common.{◌≡◌, drop}
use Rattle.std.specs.List.{list_any}
use Rattle.tks_lines.specs.Lines.{is_mark}
use Rattle.tks_lines.proofs.marks.has_mark.Given as goal

-- it is further on
abbrev pub invariant-loop-mark : goal.invariant-loop-mark
invariant-loop-mark l = list_any (is_mark l.name) (drop l.mark-index l.marks) ≡ list_any (is_mark l.name) l.marks
