use Rattle.std.proofs.Common.{◌≡◌, ◌++◌, drop, map}
use Rattle.tks_lines.proofs.answers.mark_names.Given as goal

-- those so far, and those further on, are all
abbrev pub invariant-loop-mark : goal.invariant-loop-mark
invariant-loop-mark l = l.names ++ map (λ m. m.name) (drop l.mark-index l.marks) ≡ map (λ m. m.name) l.marks
