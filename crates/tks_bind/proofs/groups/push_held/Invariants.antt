use Rattle.std.proofs.Common.{◌≡◌, ◌++◌, take}
use Rattle.tks_bind.proofs.groups.push_held.Given as goal

abbrev pub invariant-loop-item : goal.invariant-loop-item
invariant-loop-item g l = l.found ≡ l.fn.found ++ take l.item-index l.items
