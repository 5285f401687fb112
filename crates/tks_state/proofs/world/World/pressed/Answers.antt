use Rattle.std.proofs.Common.{◌≤◌, ◌^◌, IfSome, subst, sym}
use Rattle.tks_state.proofs.Looping.{press_below}
use Rattle.tks_state.proofs.world.World.pressed.Goals as goal

pub returns-clause-bound : goal.returns-clause-bound
returns-clause-bound c =
    let w = c.self.inside in
    subst (λ o. IfSome o (λ n. n ≤ 2 ^ 62)) (sym c.pressed.ensures) (press_below w.windows.tree w.event_loop c.tree.ensures.formed.windows c.self.invariant.1)
