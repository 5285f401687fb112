use Rattle.std.proofs.Common.{◌≡◌, ◌+◌, ◌<◌, ◌^◌, ◌++◌, take, drop, map}
use Rattle.std.specs.List.{AllByRecursion}
use Rattle.tks_lines.specs.Lines.{moved_on}
use Rattle.tks_lines.proofs.marks.move_each_on.Given as goal

-- those so far are moved
abbrev pub invariant-loop-mark : goal.invariant-loop-mark
invariant-loop-mark l = record {
  made : l.marks ≡ map (moved_on l.place l.count) (take l.mark-index l.fn.marks) ++ drop l.mark-index l.fn.marks;
  small : AllByRecursion (λ m. m.place + l.count < 2 ^ 64) (drop l.mark-index l.fn.marks);
}
