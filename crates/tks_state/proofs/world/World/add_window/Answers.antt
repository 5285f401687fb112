use Rattle.std.proofs.Common.{subst, sym}
use Rattle.tks_state.specs.Laid.{ArePlaces}
use Rattle.tks_state.proofs.Looping.{more_there}
use Rattle.tks_state.proofs.world.World.add_window.Goals as goal

pub invariant_of-self-2 : goal.invariant_of-self-2
invariant_of-self-2 c =
    let there = more_there c.self.inside.windows.tree.windows c.add.new.self.tree.windows c.self.inside.event_loop c.add.ensures.stay c.self.invariant.1 in
    (c.self.invariant.0, there, c.self.invariant.2, subst (ArePlaces c.add.new.self c.self.inside.grid) (sym c.unknown.ensures) tt)
