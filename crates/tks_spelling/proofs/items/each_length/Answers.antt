use Rattle.tks_spelling.proofs.Counting.{one_more_counted, all_counted}
use Rattle.tks_spelling.proofs.items.each_length.Goals as goal

pub loop-x-preserved : goal.loop-x-preserved
loop-x-preserved g c =
    one_more_counted (g.M.Members.spelling c.args.members.now) c.loop-x.sum c.spelled_length.result c.saturating_add-sum.result c.loop-x.x-iterator c.in-Some.x.now c.next.new.self c.args.items c.in-Some.ensures.steps c.spelled_length.ensures c.saturating_add-sum.ensures c.loop-x.invariant

pub returns : goal.returns
returns g c = all_counted (g.M.Members.spelling c.args.members.now) c.loop-x.sum c.loop-x.x-iterator c.args.items c.in-None.ensures.steps.0 c.loop-x.invariant
