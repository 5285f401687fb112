use Rattle.std.proofs.Common.{true}
use Rattle.tks_eval.specs.Evaluation.{evaluate, thing_does}
use Rattle.tks_eval.specs.Machine.{RunsSo}
use Rattle.tks_eval.proofs.Running.{runs_goes}
use Rattle.tks_eval.proofs.machine.eval_plan.Goals as goal

pub returns-clause-ends : goal.returns-clause-ends
returns-clause-ends g c =
    let host = g.H.Host.meaning in
    let limits = c.args.limits.now in
    let m = c.do_thing-first.new.self in
    let state = g.H.Host.state c.do_thing-first.new.host in
    let whole = thing_does host limits (evaluate host limits limits.depth) c.args.plan (g.H.Host.state c.args.host.now) c.args.variables.now limits.fuel in
    let came : RunsSo host true limits.depth whole c.do_thing-first.result m state = rw c.at_rest-machine.ensures at c.do_thing-first.ensures.comes in
    let ended = (rw (c.new.ensures, c.stopped.ensures) at c.run-ended.ensures.ends) whole (runs_goes host m state limits.depth whole c.do_thing-first.result came) in
    rw c.give_back.ensures ended
