use Rattle.std.proofs.Common.{◌≡◌, ◌+◌, ◌-◌, ◌≤◌, length}
use Rattle.tks_pack.specs.Indexes.{index_of}
use Rattle.tks_pack.proofs.packing.index_of.Given as goal

-- none of those before is the one
abbrev pub invariant-loop-content : goal.invariant-loop-content
invariant-loop-content l = record {
  left : l.left ≡ length l.content-iterator;
  within : l.left ≤ l.len;
  found : (l.len - l.left) + index_of l.window l.content-iterator ≡ index_of l.fn.window l.fn.contents;
}
