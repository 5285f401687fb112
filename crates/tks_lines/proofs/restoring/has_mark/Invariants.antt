use Rattle.std.proofs.Common.{◌≡◌, drop}
use Rattle.std.specs.Prelude.{map}
use Rattle.tks_lines.specs.Lines.{is_listed}
use Rattle.tks_lines.proofs.restoring.has_mark.Given as goal

-- it is further on
abbrev pub invariant-loop-mark : goal.invariant-loop-mark
invariant-loop-mark l = is_listed l.name (map (λ m. m.name) (drop l.mark-index l.marks)) ≡ is_listed l.name (map (λ m. m.name) l.marks)
