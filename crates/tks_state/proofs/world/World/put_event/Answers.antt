use Rattle.std.proofs.Common.{rules, ◌≡◌, true}
use Rattle.tks_state.specs.EventLoop.{is_there}
use Rattle.tks_state.proofs.Looping.{put_there}
use Rattle.tks_state.proofs.world.World.put_event.Goals as goal

pub invariant_of-self : goal.invariant_of-self
invariant_of-self c =
    let tree = c.self.inside.windows.tree in
    let there : is_there tree.windows c.args.event.window ≡ true = search rules in
    rw c.in_ok-put_event.ensures.ok (c.self.invariant.0, put_there tree c.args.place c.args.event c.self.inside.event_loop c.tree.ensures.formed.windows there c.self.invariant.1, c.self.invariant.2, c.self.invariant.3)
