use Rattle.std.proofs.Common.{◌∙◌, sym}
use Rattle.tks_text.specs.Text.{same_text}
use Rattle.tks_tree.specs.Windows.{Window}
use Rattle.tks_tree.proofs.Indexed.{no_path, no_place, place_by_path}
use Rattle.tks_tree.proofs.tree.Tree.place_at.Goals as goal

pub returns-in_err-number_at : goal.returns-in_err-number_at
returns-in_err-number_at c =
    let path = c.args.path.now in
    let ws = c.args.self.now.windows in
    c.from_residual.ensures
    ∙ no_place (λ (w : Window). same_text path w.path) ws (no_path ws path (sym c.in_err-number_at.was ∙ c.number_at.ensures.value))

pub returns : goal.returns
returns c =
    let t = c.args.self.now in
    c.place_of.ensures
    ∙ place_by_path t.windows t.next c.in_ok-number_at.field-0 c.args.path.now c.number_at.ensures.formed.numbered c.in_ok-number_at.ensures.value
