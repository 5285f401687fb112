use Rattle.std.proofs.Common.{◌≡◌, ◌+◌, false, drop}
use Rattle.tks_parse.specs.Braces.{comment_len}
use Rattle.tks_parse.proofs.braces.comment_len.Given as goal

abbrev pub invariant-comment : goal.invariant-comment
invariant-comment l = record {
  index : l.len ≡ l.c-index;
  so_far : l.len + comment_len l.quoted (drop l.c-index l.text) ≡ comment_len false l.text;
}
