use Rattle.std.proofs.Common.{◌≡◌, ◌≤◌, length}
use Rattle.tks_text.specs.Text.{IsText}
use Rattle.tks_list.specs.Reading.{list_of}
use Rattle.tks_list.specs.Gives.{behind_list}
use Rattle.tks_list.proofs.reading.split_list.Given as goal

abbrev pub invariant-elements : goal.invariant-elements
invariant-elements l = record {
  so_far : behind_list l.list (list_of l.rest) ≡ list_of l.text;
  len : length l.rest ≤ length l.text;
  is_text : IsText l.rest;
}

abbrev pub decreases-elements : goal.decreases-elements
decreases-elements l = length l.rest
