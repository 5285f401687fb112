use Rattle.std.proofs.Common.{◌≡◌, ◌++◌, drop, map}
use Rattle.tks_lines.specs.Commands.{spelled}
use Rattle.tks_lines.proofs.answers.all_spelled.Given as goal

-- those so far, and those further on, are all
abbrev pub invariant-loop-place : goal.invariant-loop-place
invariant-loop-place l = l.all ++ map (spelled l.text) (drop l.place-index l.places) ≡ map (spelled l.text) l.places
