use Rattle.std.proofs.Common.{ℕ, List}
use Rattle.tks_spelling.proofs.Counting.{one_more_counted, all_counted}
use Rattle.tks_codec_variables.specs.Table.{entry}
use Rattle.tks_codec_variables.proofs.table.each_length.Goals as goal

pub loop-name-preserved : goal.loop-name-preserved
loop-name-preserved g c =
    let s = entry (g.M.Members.spelling c.args.values.now) in
    let e : List ℕ × g.row.X.Denot = (c.in-Some.name.now, c.in-Some.value.now) in
    one_more_counted s c.loop-name.sum c.entry_length.result c.saturating_add-sum.result c.loop-name.name-iterator e c.next.new.self c.args.entries c.in-Some.ensures.steps c.entry_length.ensures c.saturating_add-sum.ensures c.loop-name.invariant

pub returns : goal.returns
returns g c = all_counted (entry (g.M.Members.spelling c.args.values.now)) c.loop-name.sum c.loop-name.name-iterator c.args.entries c.in-None.ensures.steps.0 c.loop-name.invariant
