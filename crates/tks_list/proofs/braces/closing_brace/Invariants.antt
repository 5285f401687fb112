use Rattle.std.proofs.Common.{◌≡◌, ◌≤◌, drop}
use Rattle.tks_list.specs.Reading.{closing_brace, no_braces}
use Rattle.tks_list.proofs.braces.closing_brace.Given as goal

abbrev pub invariant-loop-c : goal.invariant-loop-c
invariant-loop-c l = record {
  so_far : closing_brace l.len l.braces (drop l.c-index l.text) ≡ closing_brace 0 no_braces l.text;
  len : l.len ≡ l.c-index;
  held : l.braces.held ≤ l.len;
}
