use Rattle.std.proofs.Common.{◌≡◌, take}
use Rattle.tks_share.proofs.line.tree_of.Given as goal

-- those so far
abbrev pub invariant-loop-index : goal.invariant-loop-index
invariant-loop-index g l = l.tree ≡ take l.index l.row
