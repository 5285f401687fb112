use Rattle.std.proofs.Common.{rules, ◌≡◌, Some, sym, ap, subst, ◌∙◌}
use Rattle.tks_tree.specs.Path.{root_path}
use Rattle.tks_tree.specs.Windows.{number_at}
use Rattle.tks_tree.specs.WellFormed.{WellFormed}
use Rattle.tks_tree.proofs.tree.Tree.number_at.Goals as goal

pub returns-then-eq-clause-value : goal.returns-then-eq-clause-value
returns-then-eq-clause-value c =
    let windows = c.args.self.now.windows in
    let formed = subst WellFormed c.self.view_is c.self.invariant.0 in
    let dot : c.args.path.now ≡ root_path = search rules in
    ap (λ n. Some n) c.root.ensures
    ∙ sym (ap (λ ws. number_at ws (Some root_path)) formed.first.1)
    ∙ ap (λ p. number_at windows (Some p)) (sym dot)
