use Rattle.std.proofs.Common.{rules, ◌≡◌, true, sym}
use Rattle.std.specs.List.{list_all}
use Rattle.tks_tree.specs.WellFormed as trees
use Rattle.tks_state.specs.Restoring.{are_in_step, packs_children}
use Rattle.tks_state.proofs.Restored.{well_formed}
use Rattle.tks_state.proofs.windows.Windows.restore.Goals as goal

pub invariant_of-result : goal.invariant_of-result
invariant_of-result c =
    let t = c.args.tree in
    let ks = c.args.kept in
    let step : are_in_step t.windows ks ≡ true = sym c.if-are_in_step.ensures in
    let packs : list_all (packs_children t) ks ≡ true = search rules in
    let tree : trees.WellFormed t = search rules in
    well_formed (record { tree = t; kept = ks }) tree step packs
