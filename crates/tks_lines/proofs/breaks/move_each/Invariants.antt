use Rattle.std.proofs.Common.{◌≡◌, ◌+◌, ◌-◌, ◌<◌, ◌^◌, ◌++◌, take, drop, map}
use Rattle.std.specs.List.{AllByRecursion}
use Rattle.tks_lines.proofs.breaks.move_each.Given as goal

-- those so far are moved
abbrev pub invariant-loop-place : goal.invariant-loop-place
invariant-loop-place l = record {
  made : l.places ≡ map (λ b. b - l.from + l.to) (take l.place-index l.fn.places) ++ drop l.place-index l.fn.places;
  small : AllByRecursion (λ b. b - l.from + l.to < 2 ^ 64) (drop l.place-index l.fn.places);
}
