use Rattle.std.proofs.Common.{◌≡◌, ◌++◌, take, drop, map}
use Rattle.std.specs.List.{AllByRecursion}
use Rattle.tks_lines.specs.Ranges.{moved, MayMove}
use Rattle.tks_lines.proofs.range_list.move_each.Given as goal

-- those so far are moved
abbrev pub invariant-loop-range : goal.invariant-loop-range
invariant-loop-range l = record {
  made : l.ranges ≡ map (moved l.from l.to) (take l.range-index l.fn.ranges) ++ drop l.range-index l.fn.ranges;
  may : AllByRecursion (MayMove l.from l.to) (drop l.range-index l.fn.ranges);
}
