use Rattle.std.proofs.Common.{◌==◌, ap, sym, ◌∙◌}
use Rattle.std.specs.Option.{option_map}
use Rattle.tks_tree.specs.Windows.{Window}
use Rattle.tks_tree.specs.View.{window_seen}
use Rattle.tks_tree.proofs.Removals.{found_at, found_nowhere}
use Rattle.tks_tree.proofs.tree.Tree.window.Goals as goal

pub returns-in_err-place_of : goal.returns-in_err-place_of
returns-in_err-place_of c = ap (option_map window_seen) c.from_residual.ensures ∙ sym (found_nowhere (λ (w : Window). w.number == c.args.id) c.args.self.now.windows c.in_err-place_of.ensures)

pub returns : goal.returns
returns c = c.nth.ensures ∙ sym (found_at (λ (w : Window). w.number == c.args.id) c.args.self.now.windows c.in_ok-place_of.field-0 c.in_ok-place_of.ensures)
