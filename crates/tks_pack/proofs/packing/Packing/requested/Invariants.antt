use Rattle.std.proofs.Common.{◌≡◌, ◌+◌, max}
use Rattle.tks_pack.specs.Packer.{request}
use Rattle.tks_pack.specs.Packing.{horizontals, verticals, capped}
use Rattle.tks_pack.proofs.packing.Packing.requested.Given as goal

abbrev pub invariant-loop-content : goal.invariant-loop-content
invariant-loop-content g l = record {
  across : capped (max l.across.beside (l.across.along + request (horizontals (g.R.Requests.size l.requests) l.content-iterator))) ≡ capped (request (horizontals (g.R.Requests.size l.requests) l.fn.self.contents));
  down : capped (max l.down.beside (l.down.along + request (verticals (g.R.Requests.size l.requests) l.content-iterator))) ≡ capped (request (verticals (g.R.Requests.size l.requests) l.fn.self.contents));
}
