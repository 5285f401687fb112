use Rattle.std.proofs.Common.{◌∙◌}
use Rattle.tks_spelling.proofs.Counting.{one_counted}
use Rattle.tks_spelling.proofs.member.each_length.Goals as goal

pub loop-x-preserved : goal.loop-x-preserved
loop-x-preserved g c =
    c.saturating_add-sum.ensures
    ∙ one_counted (g.M.Members.spelling c.args.members.now) c.args.xs.now c.loop-x.x-index c.x-item.result c.loop-x.sum c.spelled_length.result c.loop-x-test.true c.x-item.is c.loop-x.invariant c.spelled_length.ensures
