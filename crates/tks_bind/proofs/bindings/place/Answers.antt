use Rattle.std.proofs.Common.{rules, ◌≤◌, length, subst}
use Rattle.tks_bind.proofs.Placing.{placed_there, there_last}
use Rattle.tks_bind.proofs.bindings.place.Goals as goal

pub returns-in_ok-set-clause-ok : goal.returns-in_ok-set-clause-ok
returns-in_ok-set-clause-ok c =
    let put = placed_there c.args.binding c.args.bindings.now (search rules) in
    search rules

pub returns-in_ok-push-clause-there : goal.returns-in_ok-push-clause-there
returns-in_ok-push-clause-there c =
    let past : length c.args.bindings.now ≤ c.args.index = search rules in
    rw (c.in_ok-push.ensures.ok, c.requires) (there_last c.args.binding c.args.bindings.now (subst (λ n. length c.args.bindings.now ≤ n) c.requires past))
