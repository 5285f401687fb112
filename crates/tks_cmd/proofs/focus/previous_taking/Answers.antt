use Rattle.std.proofs.Common.{rules, ap, reverse, ◌∙◌}
use Rattle.tks_tree.specs.Windows.{Windows, preorder, others_behind}
use Rattle.tks_cmd.specs.Focus.{first_taking}
use Rattle.tks_cmd.proofs.Choices.{chosen_is}
use Rattle.tks_cmd.proofs.focus.previous_taking.Goals as goal

pub returns : goal.returns
returns c =
    chosen_is c.args.world.now _ _ _ _ _ c.in_ok-previous.ensures (λ n h. search rules) (λ n h. search rules)
    ∙ ap (λ (t : Windows). first_taking c.args.world.now (others_behind (reverse (preorder t)) c.args.window) c.args.window) c.tree.ensures.value
