use Rattle.std.proofs.Common.{drop}
use Rattle.tks_tree.proofs.Leaving.{Left}
use Rattle.tks_tree.proofs.tree.Tree.index_without.Given as goal

-- the index has the windows that are left, and without those further on too all that go are out
abbrev pub invariant-loop-id : goal.invariant-loop-id
invariant-loop-id l = Left l.index (drop l.id-index l.ids) l.fn.ids l.fn.self.windows
