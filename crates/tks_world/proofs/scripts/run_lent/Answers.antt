use Rattle.tks_world.proofs.Resting.{script_rests}
use Rattle.tks_world.specs.Hosts.{setting_of}
use Rattle.tks_world.proofs.scripts.run_lent.Goals as goal

pub conclude-requires-clause-rests : goal.conclude-requires-clause-rests
conclude-requires-clause-rests g c =
    let ended = c.in-Ok.ended in
    script_rests g.T.AppMeaning.meaning c.args.limits.now (setting_of c.args.host.now) (setting_of c.run_script.new.host) c.args.variables c.run_script.new.variables ended.code ended.text ended.fuel c.requires c.args.script c.in-Ok.ensures.ends
