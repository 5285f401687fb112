use Rattle.std.proofs.Common.{◌≡◌, ◌≤◌, ◌++◌, length}
use Rattle.tks_text.specs.Text.{IsText}
use Rattle.tks_parse.specs.Braces.{verbatim}
use Rattle.tks_parse.proofs.braces.braced_value.Given as goal

abbrev pub invariant-verbatim : goal.invariant-verbatim
invariant-verbatim l = record {
  so_far : l.value ++ verbatim l.rest ≡ verbatim l.text;
  len : length l.rest ≤ length l.text;
  is_text : IsText l.rest;
}

abbrev pub decreases-verbatim : goal.decreases-verbatim
decreases-verbatim l = length l.rest
