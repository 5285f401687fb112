use Rattle.std.proofs.Common.{arith}
use Rattle.tks_tree.specs.Windows.{Windows}
use Rattle.tks_tree.proofs.Trees.{well_skipped}
use Rattle.tks_tree.proofs.tree.Tree.skip_to.Goals as goal

pub invariant_of-self : goal.invariant_of-self
invariant_of-self c =
    let t : Windows = record { windows = c.self.inside.windows; next = c.self.inside.next } in
    (well_skipped t c.args.number c.self.invariant.0 (omega (arith, c.if-number-self.false)) (omega (arith, c.if-number-gt-MAX_NUMBER.false)), c.self.invariant.1)
