use Rattle.std.proofs.Common.{◌≡◌, ◌≤◌, length, ◌++◌}
use Rattle.tks_text.specs.Text.{IsText}
use Rattle.tks_expr.specs.Reading.{signs}
use Rattle.tks_expr.proofs.parse.read_signs.Given as goal

abbrev pub invariant-signs : goal.invariant-signs
invariant-signs l = record {
  so_far : (l.signs.items ++ (signs l.rest).0, (signs l.rest).1) ≡ signs l.text;
  len : length l.rest ≤ length l.text;
  is_text : IsText l.rest;
}

abbrev pub decreases-signs : goal.decreases-signs
decreases-signs l = length l.rest
