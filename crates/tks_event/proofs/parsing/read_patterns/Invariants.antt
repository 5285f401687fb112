use Rattle.std.proofs.Common.{◌≡◌, length}
use Rattle.tks_text.specs.Integer.{is_space}
use Rattle.tks_text.specs.Text.{IsText, BeginsNot}
use Rattle.tks_event.specs.Reading.{patterns_in}
use Rattle.tks_event.specs.View.{kept, none_kept, kept_after}
use Rattle.tks_event.proofs.parsing.read_patterns.Given as goal

abbrev pub invariant-patterns : goal.invariant-patterns
invariant-patterns l = record {
  so_far : kept_after (kept l.found) (patterns_in l.rest) ≡ kept_after none_kept (patterns_in l.text);
  begins : BeginsNot is_space l.rest;
  is_text : IsText l.rest;
}

abbrev pub decreases-patterns : goal.decreases-patterns
decreases-patterns l = length l.rest
