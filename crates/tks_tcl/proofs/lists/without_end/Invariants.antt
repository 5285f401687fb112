use Rattle.std.proofs.Common.{◌≡◌, length}
use Rattle.tks_text.specs.Text.{IsText}
use Rattle.tks_tcl.specs.Lists.{without_end}
use Rattle.tks_tcl.proofs.lists.without_end.Given as goal

abbrev pub invariant-ends : goal.invariant-ends
invariant-ends l = record {
  so_far : without_end l.rest ≡ without_end l.text;
  is_text : IsText l.rest;
}

abbrev pub decreases-ends : goal.decreases-ends
decreases-ends l = length l.rest
