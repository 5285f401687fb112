use Rattle.std.proofs.Common.{◌≡◌, ◌≤◌, length}
use Rattle.tks_lines.specs.Places.{end_place}
use Rattle.tks_lines.specs.Indices.{moved}
use Rattle.tks_lines.proofs.index.moved.Given as goal

-- what is left to be read makes of the place so far what all makes of the first one
abbrev pub invariant-modifiers : goal.invariant-modifiers
invariant-modifiers l = record {
  so_far : moved l.text l.place 0 l.rest ≡ moved l.text l.fn.place 0 l.modifiers;
  inside : l.place ≤ end_place l.text;
  len : length l.rest ≤ length l.modifiers;
}

abbrev pub decreases-modifiers : goal.decreases-modifiers
decreases-modifiers l = length l.rest
