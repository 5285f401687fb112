use Rattle.tks_world.proofs.Resting.{thing_rests}
use Rattle.tks_world.specs.Hosts.{setting_of}
use Rattle.tks_world.proofs.turns.finish.Goals as goal

pub conclude-requires-clause-rests : goal.conclude-requires-clause-rests
conclude-requires-clause-rests g c =
    let ended = c.in-Ok.field-0 in
    thing_rests g.T.AppMeaning.meaning c.args.limits.now (setting_of c.args.host.now) (setting_of c.run_thing.new.host) c.args.variables c.run_thing.new.variables ended.code ended.text ended.fuel c.requires.rests c.args.thing c.in-Ok.ensures.ends
