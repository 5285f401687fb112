use Rattle.std.proofs.Common.{◌≡◌, take}
use Rattle.tks_share.proofs.row.FewClone.clone.Given as goal

-- the items so far
abbrev pub invariant-loop-item : goal.invariant-loop-item
invariant-loop-item g l = l.items.items ≡ take l.item-index l.item-items
