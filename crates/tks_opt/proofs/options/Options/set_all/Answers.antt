use Rattle.std.proofs.Common.{◌∙◌}
use Rattle.tks_opt.proofs.Values.{one_pair}
use Rattle.tks_opt.proofs.options.Options.set_all.Goals as goal

pub loop-name-preserved : goal.loop-name-preserved
loop-name-preserved c =
    one_pair c.loop-name.self c.set.new.self c.loop-name.rest.now c.in-Some.behind.now c.in-Some-split_first.more.now c.in-Some.name.now c.in-Some-split_first.value.now
    c.in-Some.ensures.cases.0 c.in-Some-split_first.ensures.cases.0 c.in_ok-set.ensures ∙ c.loop-name.invariant
