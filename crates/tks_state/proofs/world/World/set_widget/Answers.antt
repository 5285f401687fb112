use Rattle.std.proofs.Common.{◌≡◌, true, sym, ap, subst, ◌∙◌}
use Rattle.std.specs.Prelude.{Some, IfSome}
use Rattle.tks_tree.specs.Windows as tree
use Rattle.tks_state.specs.EventLoop.{all_in}
use Rattle.tks_state.specs.Laid.{ArePlaces}
use Rattle.tks_state.specs.Links.{AsksAs}
use Rattle.tks_state.specs.Windows.{kept_of}
use Rattle.tks_state.specs.World.{World}
use Rattle.tks_state.proofs.Unmoved.{widget_stays}
use Rattle.tks_state.proofs.world.World.set_widget.Goals as goal

pub invariant_of-self-2 : goal.invariant_of-self-2
invariant_of-self-2 c =
    let w = c.self.inside in
    let asks = subst (λ o. IfSome c.in_ok-places.places (λ laid. (w.places ≡ Some laid) × IfSome o (λ k. AsksAs k.widget c.args.widget))) (c.kept.ensures ∙ ap (λ (x : World). kept_of x.kept c.args.window) (sym c.self.view_is)) c.in_ok-places.ensures in (
      c.self.invariant.0,
      subst (λ (t : tree.Windows). all_in t.windows w.event_loop ≡ true) (sym c.set_widget.ensures.tree) c.self.invariant.1,
      c.self.invariant.2,
      subst (λ x. ArePlaces x w.grid c.in_ok-places.places) (sym c.in_ok-set_widget.ensures.ok) (widget_stays w.windows w.grid c.args.window c.args.widget w.places c.in_ok-places.places asks c.self.invariant.3),
    )
