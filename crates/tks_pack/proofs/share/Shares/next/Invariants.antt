use Rattle.std.proofs.Common.{◌<◌, ◌≤◌, ◌-◌, length}
use Rattle.tks_pack.specs.Shares.{Passed}
use Rattle.tks_pack.proofs.share.Shares.next.Given as goal

abbrev pub invariant-passing : goal.invariant-passing
invariant-passing l = record {
  later : l.index < l.first;
  inside : l.first ≤ length l.stretches;
  passed : Passed l.index l.first l.cavity l.stretches l.self.notes.items;
}

abbrev pub decreases-passing : goal.decreases-passing
decreases-passing l = length l.stretches - l.first
