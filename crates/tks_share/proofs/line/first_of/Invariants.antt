use Rattle.std.proofs.Common.{◌≡◌, ◌++◌}
use Rattle.tks_share.proofs.line.first_of.Given as goal

-- those so far, and those that are left, are all
abbrev pub invariant-loop-turn : goal.invariant-loop-turn
invariant-loop-turn g l = l.fn.tree ≡ l.row ++ l.tree
