use Rattle.std.proofs.Common.{◌≡◌, ◌+◌, ◌++◌, drop}
use Rattle.tks_lines.specs.Breaks.{breaks_from}
use Rattle.tks_lines.proofs.breaks.push_breaks.Given as goal

-- those so far, and those further on, are all
abbrev pub invariant-loop-byte : goal.invariant-loop-byte
invariant-loop-byte l = record {
  all : l.places.items ++ breaks_from l.place (drop l.byte-index l.text) ≡ l.fn.places.items ++ breaks_from l.begin l.text;
  here : l.place ≡ l.begin + l.byte-index;
}
