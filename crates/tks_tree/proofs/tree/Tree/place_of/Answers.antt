use Rattle.std.proofs.Common.{◌==◌, ap, ◌∙◌}
use Rattle.std.specs.Prelude.{position}
use Rattle.tks_tree.specs.Windows.{Window, Windows}
use Rattle.tks_tree.proofs.Indexed.{numbers_rise}
use Rattle.tks_tree.proofs.tree.Tree.place_of.Goals as goal

pub place_of-requires : goal.place_of-requires
place_of-requires c = numbers_rise 0 c.self.inside.windows c.self.inside.next c.self.invariant.0.numbered

pub returns : goal.returns
returns c =
    c.place_of.ensures
    ∙ ap (λ n. position (λ (w : Window). w.number == n) c.self.inside.windows) c.number.ensures
    ∙ ap (λ (t : Windows). position (λ (w : Window). w.number == c.args.id) t.windows) c.self.view_is
