use Rattle.std.proofs.Common.{rules, ◌≡◌, Some}
use Rattle.tks_tree.specs.Windows.{of_path}
use Rattle.tks_tree.specs.View.{window_seen}
use Rattle.tks_tree.proofs.Below.{path_below}
use Rattle.tks_tree.proofs.tree.Tree.resolve.Goals as goal

pub returns-in-Some-clause-value : goal.returns-in-Some-clause-value
returns-in-Some-clause-value = search rules

pub returns-in-Some-clause-bound : goal.returns-in-Some-clause-bound
returns-in-Some-clause-bound c =
    let t = c.args.self.now in
    let found : of_path t.windows c.args.path.now ≡ Some (window_seen c.in-Some.window) = search rules in
    path_below t c.args.path.now (window_seen c.in-Some.window) c.len.ensures.formed found
