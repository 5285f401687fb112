use Rattle.std.proofs.Common.{◌≡◌, ◌++◌, length}
use Rattle.std.specs.Prelude.{not}
use Rattle.std.specs.List.{prefix_len}
use Rattle.tks_text.specs.Text.{IsText}
use Rattle.tks_tcl.specs.Lists.{is_among, fields}
use Rattle.tks_tcl.proofs.lists.fields.Given as goal

abbrev pub invariant-fields : goal.invariant-fields
invariant-fields l = record {
  so_far : l.list ++ fields l.separators l.rest ≡ fields l.separators l.text;
  len : l.len ≡ prefix_len (λ c. not (is_among l.separators c)) l.rest;
  is_text : IsText l.rest;
}

abbrev pub decreases-fields : goal.decreases-fields
decreases-fields l = length l.rest
