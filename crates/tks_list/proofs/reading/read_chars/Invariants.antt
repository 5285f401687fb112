use Rattle.std.proofs.Common.{◌≡◌, ◌++◌, length, ◌+◌}
use Rattle.tks_text.specs.Text.{IsText}
use Rattle.tks_text.proofs.Runs.{behind}
use Rattle.tks_list.specs.Reading.{chars_at}
use Rattle.tks_list.proofs.reading.read_chars.Given as goal

abbrev pub invariant-chars : goal.invariant-chars
invariant-chars l = record {
  so_far : behind (λ e. l.made ++ e) l.taken (chars_at l.ends l.rest) ≡ chars_at l.ends l.text;
  len : l.taken + length l.rest ≡ length l.text;
  is_text : IsText l.rest;
}

abbrev pub decreases-chars : goal.decreases-chars
decreases-chars l = length l.rest
