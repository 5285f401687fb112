use Rattle.std.proofs.Common.{◌≡◌, ◌+◌, ◌≤◌, false, drop}
use Rattle.tks_parse.specs.Braces.{braced_len}
use Rattle.tks_parse.proofs.braces.braced_len.Given as goal

abbrev pub invariant-braces : goal.invariant-braces
invariant-braces l = record {
  index : l.len ≡ l.c-index;
  few : l.held ≤ l.len;
  so_far : l.len + braced_len l.held l.quoted (drop l.c-index l.text) ≡ braced_len 0 false l.text;
}
