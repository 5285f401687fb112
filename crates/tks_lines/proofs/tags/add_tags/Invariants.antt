use Rattle.std.proofs.Common.{◌≡◌, length, take, drop}
use Rattle.tks_text.specs.Short.{IsShort}
use Rattle.tks_lines.specs.Lines.{with_tags}
use Rattle.tks_lines.proofs.tags.add_tags.Given as goal

-- what the names further on make of those so far is what all make of the first ones, which stand in front
abbrev pub invariant-loop-name : goal.invariant-loop-name
invariant-loop-name l = record {
  made : with_tags (drop l.name-index l.names) l.len l.tags.items ≡ with_tags l.names l.len l.fn.tags.items;
  short : IsShort l.tags.items;
  front : take (length l.fn.tags.items) l.tags.items ≡ l.fn.tags.items;
}
