use Rattle.std.proofs.Common.{◌≡◌, ◌++◌, length}
use Rattle.std.specs.Prelude.{reverse}
use Rattle.tks_tree.specs.Windows.{preorder}
use Rattle.tks_tree.proofs.Links.{from_places, AllWithin}
use Rattle.tks_tree.proofs.tree.Tree.walk.Given as goal

-- those so far, and those from the pending places on, are all
abbrev pub invariant-loop-place : goal.invariant-loop-place
invariant-loop-place l = record {
  all : l.order.items ++ from_places l.self.windows (reverse l.pending.items) ≡ preorder l.self;
  within : AllWithin l.self.windows l.pending.items;
}

abbrev pub decreases-loop-place : goal.decreases-loop-place
decreases-loop-place l = length (from_places l.self.windows (reverse l.pending.items))
