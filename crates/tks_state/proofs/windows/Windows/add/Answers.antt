use Rattle.std.proofs.Common.{◌≡◌, ◌++◌, ◌∷◌, [], Ok, ap, sym, subst, ◌∙◌}
use Rattle.tks_opt.specs.Options.{Options}
use Rattle.tks_tree.specs.Windows as tree
use Rattle.tks_tree.specs.WellFormed.{is_widget_class}
use Rattle.tks_tree.proofs.Parents.{made_so}
use Rattle.tks_state.specs.EventLoop.{Stay}
use Rattle.tks_state.specs.Windows.{Windows, new_kept}
use Rattle.tks_state.specs.WellFormed.{InStep, AllPackChildren}
use Rattle.tks_state.proofs.Marks.{added}
use Rattle.tks_state.proofs.Children.{added_packs}
use Rattle.tks_state.proofs.Looping.{made_stay}
use Rattle.tks_state.proofs.windows.Windows.add.Goals as goal

pub invariant_of-self-2 : goal.invariant_of-self-2
invariant_of-self-2 c =
    let t = c.self.inside.tree in
    let u = c.create.new.self in
    let path = c.args.path.now in
    let window = c.in_ok-window.window in
    let class = c.class-class.result in
    let old = c.self.inside.kept in
    let k = new_kept window c.args.widget in
    let made : tree.created t path class ≡ Ok (window, u) = ap (λ x. tree.created x path class) (sym c.in_ok-tree.ensures) ∙ c.in_ok-window.ensures.value in
    let own = c.class-class.ensures.value ∙ ap (λ (o : Options). o.class) c.options.ensures in
    let behind = made_so t u path window class c.self.invariant.windows (ap is_widget_class own ∙ c.requires) made in
    let kept = c.new-2.ensures ∙ ap (new_kept window) c.in_ok-widget.ensures in
    let grown = sym (c.in_ok-push.ensures.ok ∙ ap (λ k. old ++ k ∷ []) kept) in
    record {
      windows = behind.well;
      in_step = subst (InStep u.windows) grown (added t u path window old k class made (ap (λ class. (window, class)) (sym own)) c.self.invariant.in_step);
      packs = subst (AllPackChildren u) grown (added_packs t u old window c.args.widget behind.stands c.self.invariant.packs);
    }

pub returns-clause-stay : goal.returns-clause-stay
returns-clause-stay c =
    let t = c.self.inside.tree in
    let u = c.create.new.self in
    let path = c.args.path.now in
    let class = c.class-class.result in
    let window = c.in_ok-window.window in
    let made : tree.created t path class ≡ Ok (window, u) = ap (λ x. tree.created x path class) (sym c.in_ok-tree.ensures) ∙ c.in_ok-window.ensures.value in
    subst (λ (x : Windows). Stay x.tree.windows u.windows) c.self.view_is (made_stay t u path class window made)
