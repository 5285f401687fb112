use Rattle.std.proofs.Common.{◌≡◌, ◌≤◌, length, drop}
use Rattle.tks_tree.specs.Links.{firsts_from}
use Rattle.tks_tree.proofs.Links.{nexts_known}
use Rattle.tks_tree.proofs.tree.Tree.links.Given as goal

-- what the windows from a place on are linked to
abbrev pub invariant-loop-left : goal.invariant-loop-left
invariant-loop-left l = record {
  first : l.first.items ≡ firsts_from l.self.windows (drop l.left l.self.windows) l.left;
  next : l.next.items ≡ nexts_known (drop l.left l.self.windows) l.left;
  within : l.left ≤ length l.self.windows;
}

abbrev pub decreases-loop-left : goal.decreases-loop-left
decreases-loop-left l = l.left
