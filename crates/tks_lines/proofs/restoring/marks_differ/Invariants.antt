use Rattle.std.proofs.Common.{◌≡◌, length}
use Rattle.std.specs.Prelude.{map}
use Rattle.tks_lines.specs.Restoring.{differ}
use Rattle.tks_lines.proofs.restoring.marks_differ.Given as goal

abbrev pub invariant-loop-mark : goal.invariant-loop-mark
invariant-loop-mark l = differ (map (λ m. m.name) l.rest) ≡ differ (map (λ m. m.name) l.marks)

abbrev pub decreases-loop-mark : goal.decreases-loop-mark
decreases-loop-mark l = length l.rest
