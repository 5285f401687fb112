use Rattle.std.proofs.Common.{◌≡◌, ◌++◌, drop}
use Rattle.tks_lines.specs.Ranges.{ends_of}
use Rattle.tks_lines.proofs.answers.ends_of.Given as goal

-- those so far, and those further on, are all
abbrev pub invariant-loop-range : goal.invariant-loop-range
invariant-loop-range l = l.places ++ ends_of (drop l.range-index l.ranges) ≡ ends_of l.ranges
