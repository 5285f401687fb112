use Rattle.std.proofs.Common.{◌<◌, length, arith}
use Rattle.std.specs.FinMap as map
use Rattle.std.proofs.lemmas.Bool.Decides.{nat_tests}
use Rattle.tks_vars.specs.declared.content.Local.TheVariants.{Own}
use Rattle.tks_vars.proofs.Frames.{last_changed}
use Rattle.tks_vars.proofs.vars.insert_own.Goals as goal

pub returns-in_ok-insert-clause-ok : goal.returns-in_ok-insert-clause-ok
returns-in_ok-insert-clause-ok c =
    let some : 0 < length c.args.frames.now = grind (arith, nat_tests) in
    last_changed c.args.frames.now _ c.in-Some.frame c.insert.new.self some c.in-Some.is (λ frame. map.insert frame c.args.variable.now (Own c.args.content)) c.in_ok-insert.ensures.ok
