use Rattle.std.proofs.Common.{◌≡◌, ◌++◌, map}
use Rattle.tks_codec.specs.Windows.{held_of}
use Rattle.tks_codec.proofs.windows.split.Given as goal

-- those so far, and those of the others
abbrev pub invariant-loop-line : goal.invariant-loop-line
invariant-loop-line l = record {
  places : l.places.items ++ map (λ l. l.place) l.line-iterator.rest.items ≡ map (λ l. l.place) l.fn.lines.items;
  others : l.others.items ++ map held_of l.line-iterator.rest.items ≡ map held_of l.fn.lines.items;
}
