use Rattle.std.proofs.Common.{ap, ◌∙◌}
use Rattle.tks_tree.specs.Windows.{of_path}
use Rattle.tks_tree.proofs.Indexed.{by_path}
use Rattle.tks_tree.proofs.tree.Tree.find.Goals as goal

pub returns : goal.returns
returns c =
    let t = c.args.self.now in
    c.window.ensures
    ∙ by_path t.windows t.next c.in_ok-number_at.field-0 c.as_bytes.result.now c.number_at.ensures.formed.numbered c.in_ok-number_at.ensures.value
    ∙ ap (of_path t.windows) c.as_bytes.ensures.value
