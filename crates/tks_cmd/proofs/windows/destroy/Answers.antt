use Rattle.std.proofs.Common.{ap, sym, subst, ◌∙◌}
use Rattle.tks_text.specs.Fault.{Gives}
use Rattle.tks_tree.specs.Windows.{Windows, of_path}
use Rattle.tks_tree.specs.View.{window_seen}
use Rattle.tks_cmd.proofs.Destroys.{gone}
use Rattle.tks_cmd.proofs.windows.destroy.Goals as goal

pub returns : goal.returns
returns c =
    let path = c.args.path.now in
    let there = sym (c.in-Some.ensures ∙ ap (λ (t : Windows). of_path t.windows path) c.tree.ensures.value) in
    subst (Gives (λ _. c.remove_window.new.self) c.remove_window.result) (gone c.args.world.now path (window_seen c.in-Some.window) c.tree.ensures.formed c.requires there) c.remove_window.ensures.value
