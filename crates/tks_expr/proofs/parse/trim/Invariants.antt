use Rattle.std.proofs.Common.{◌≡◌, ◌≤◌, length}
use Rattle.tks_text.specs.Text.{IsText}
use Rattle.tks_expr.specs.Reading.{trim}
use Rattle.tks_expr.proofs.parse.trim.Given as goal

abbrev pub invariant-spaces : goal.invariant-spaces
invariant-spaces l = record {
  so_far : trim l.rest ≡ trim l.text;
  len : length l.rest ≤ length l.text;
  is_text : IsText l.rest;
}

abbrev pub decreases-spaces : goal.decreases-spaces
decreases-spaces l = length l.rest
