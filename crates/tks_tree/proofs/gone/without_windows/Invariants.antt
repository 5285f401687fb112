use Rattle.std.proofs.Common.{◌≡◌, drop}
use Rattle.tks_share.specs.Lists.{Rises}
use Rattle.tks_tree.proofs.Leaving.{without_numbers}
use Rattle.tks_tree.proofs.gone.without_windows.Given as goal

-- without those further on too, all that go are out
abbrev pub invariant-loop-id : goal.invariant-loop-id
invariant-loop-id g l = record {
  rising : Rises g.T.Numbered.number_of 0 l.left;
  left : without_numbers g.T.Numbered.number_of (drop l.id-index l.ids) l.left ≡ without_numbers g.T.Numbered.number_of l.fn.ids l.fn.items;
}
