use Rattle.std.proofs.Common.{◌≡◌, true, sym, subst}
use Rattle.tks_tree.specs.Windows as tree
use Rattle.tks_state.specs.EventLoop.{all_in}
use Rattle.tks_state.specs.Laid.{ArePlaces}
use Rattle.tks_state.proofs.Unmoved.{tags_stay}
use Rattle.tks_state.proofs.world.World.set_tags.Goals as goal

pub invariant_of-self-2 : goal.invariant_of-self-2
invariant_of-self-2 c =
    let w = c.self.inside in (
      c.self.invariant.0,
      subst (λ (t : tree.Windows). all_in t.windows w.event_loop ≡ true) (sym c.set_tags.ensures.tree) c.self.invariant.1,
      c.self.invariant.2,
      subst (λ x. ArePlaces x w.grid w.places) (sym c.in_ok-set_tags.ensures.ok) (tags_stay w.windows w.grid c.args.window c.args.tags w.places c.self.invariant.3),
    )
