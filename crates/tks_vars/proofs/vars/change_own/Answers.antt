use Rattle.std.proofs.Common.{◌<◌, length, Some, ap, ◌∙◌, arith, rules}
use Rattle.std.proofs.lemmas.Bool.Decides.{nat_tests}
use Rattle.tks_vars.proofs.Standing.{last_own, last_global, last_nowhere}
use Rattle.tks_vars.proofs.vars.change_own.Goals as goal

pub returns-in-Some-Some-clause-reached : goal.returns-in-Some-Some-clause-reached
returns-in-Some-Some-clause-reached g c =
    let some : 0 < length c.args.frames.now = grind (arith, nat_tests) in
    last_own (g.K.Change.gives c.args.change) c.args.variable.now c.in-Some.frame c.change.new.self c.args.frames.now _ some c.in-Some.is c.in_ok-change.field-0
    c.in-Some-Some.answer (c.in-Some-Some.is ∙ ap Some c.in-Some-Some.field-0-is) c.in_ok-change.ensures.some

pub returns-in-Some-None-clause-reached : goal.returns-in-Some-None-clause-reached
returns-in-Some-None-clause-reached g c =
    let some : 0 < length c.args.frames.now = grind (arith, nat_tests) in
    last_global (g.K.Change.gives c.args.change) c.args.variable.now c.in-Some.frame c.change.new.self c.args.frames.now _ some c.in-Some.is c.in_ok-change.field-0
    (c.in-Some-None.is ∙ ap Some c.in-Some-None.field-0-is) c.in_ok-change.ensures.some

pub returns-in-None-clause-reached : goal.returns-in-None-clause-reached
returns-in-None-clause-reached g c =
    let some : 0 < length c.args.frames.now = grind (arith, nat_tests) in
    last_nowhere (g.K.Change.gives c.args.change) c.args.variable.now c.in-Some.frame c.change.new.self c.args.frames.now _ some c.in-Some.is c.in_ok-change.field-0 (search rules)
