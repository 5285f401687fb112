use Rattle.std.proofs.Common.{◌≡◌, ◌++◌}
use Rattle.tks_tree.specs.Within.{front_within}
use Rattle.tks_tree.proofs.tree.push_within.Given as goal

-- the numbers so far, and those at the front of what is further on, are all
abbrev pub invariant-loop-other : goal.invariant-loop-other
invariant-loop-other l = l.ids.items ++ front_within l.path l.other-iterator ≡ l.fn.ids.items ++ front_within l.path l.fn.others
