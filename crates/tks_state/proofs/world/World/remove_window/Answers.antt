use Rattle.std.proofs.Common.{ap, sym, subst, ◌∙◌}
use Rattle.tks_tree.specs.Windows as tree
use Rattle.tks_state.specs.EventLoop.{all_in, left}
use Rattle.tks_state.specs.Laid.{ArePlaces}
use Rattle.tks_state.proofs.Looping.{left_there}
use Rattle.tks_state.proofs.world.World.remove_window.Goals as goal

pub invariant_of-self : goal.invariant_of-self
invariant_of-self c =
    let ws = c.in_ok-windows.windows.tree.windows in
    let loop = c.self.inside.event_loop in
    let first = c.tree-2.ensures.formed.windows.first in
    let there = ap (all_in ws) (c.in_ok-event_loop.ensures ∙ ap (λ (t : tree.Windows). left t.windows loop) c.tree-2.ensures.value) ∙ left_there ws first.0 loop first.1 in
    (c.self.invariant.0, there, c.self.invariant.2, subst (ArePlaces c.in_ok-windows.windows c.self.inside.grid) (sym c.unknown.ensures) tt)
