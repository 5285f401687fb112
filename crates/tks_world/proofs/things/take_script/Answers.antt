use Rattle.std.proofs.Common.{◌≡◌, None, rules}
use Rattle.tks_timer.specs.After.{kept_under, script_in}
use Rattle.tks_timer.specs.Firsts.{IsNextDue}
use Rattle.tks_world.proofs.Quiet.{due_there}
use Rattle.tks_world.proofs.things.take_script.Goals as goal

pub returns-in-None : goal.returns-in-None
returns-in-None c =
    let world = c.args.world.now in
    let first : IsNextDue world.clock world.timers.timers c.in-Some.id = search rules in
    let none : script_in (kept_under c.in-Some.id world.timers) ≡ None = search rules in
    absurd (due_there world c.in-Some.id first none)
