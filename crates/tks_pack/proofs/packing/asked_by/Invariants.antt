use Rattle.std.proofs.Common.{◌≡◌, ◌++◌}
use Rattle.tks_pack.specs.Packing.{horizontals, verticals}
use Rattle.tks_pack.proofs.packing.asked_by.Given as goal

-- what those so far ask for, and what those further on do, is what all do
abbrev pub invariant-loop-content : goal.invariant-loop-content
invariant-loop-content g l = record {
  across : l.across.items ++ horizontals (g.R.Requests.size l.requests) l.content-iterator ≡ horizontals (g.R.Requests.size l.requests) l.fn.contents;
  down : l.down.items ++ verticals (g.R.Requests.size l.requests) l.content-iterator ≡ verticals (g.R.Requests.size l.requests) l.fn.contents;
}
