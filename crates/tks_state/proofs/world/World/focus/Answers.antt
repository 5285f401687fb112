use Rattle.std.proofs.Common.{◌≤◌, ◌^◌, subst}
use Rattle.tks_state.specs.World.{World}
use Rattle.tks_state.proofs.Looping.{focus_below}
use Rattle.tks_state.proofs.world.World.focus.Goals as goal

pub returns-clause-bound : goal.returns-clause-bound
returns-clause-bound c =
    let w = c.self.inside in
    subst (λ (w : World). w.focus ≤ 2 ^ 62) c.self.view_is (focus_below w.windows.tree w.event_loop c.tree.ensures.formed.windows c.self.invariant.1)
