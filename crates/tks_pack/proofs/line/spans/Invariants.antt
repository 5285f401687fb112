use Rattle.std.proofs.Common.{◌≡◌, ◌<◌, ◌+◌, ◌^◌, ◌++◌, drop}
use Rattle.tks_pack.specs.Packer.{spans}
use Rattle.tks_pack.specs.Shares.{AreReady}
use Rattle.tks_pack.proofs.line.spans.Given as goal

abbrev pub invariant-loop-index : goal.invariant-loop-index
invariant-loop-index l = record {
  so_far : l.spans.items ++ spans l.cavity (drop l.index l.stretches) ≡ spans (record { start = 0; length = l.length }) l.stretches;
  fits : l.cavity.start + l.cavity.length < 2 ^ 32;
  ready : AreReady l.index l.cavity.length l.stretches l.shares;
}
