use Rattle.std.proofs.Common.{◌+◌, map, drop, ap, arith}
use Rattle.tks_state.proofs.Layouts.{next_one}
use Rattle.tks_state.proofs.Unmoved.{asked_more}
use Rattle.tks_state.proofs.layout.asked_by.Goals as goal

pub loop-one-preserved : goal.loop-one-preserved
loop-one-preserved c =
    let row = c.args.row.now in
    let index = c.loop-one.one-index in
    let next = ap (map (λ k. k.now)) (next_one row index c.one-item.result (omega arith) c.one-item.is) in
    asked_more c.args.variables.now c.loop-one.asked.items c.add_asked.new.asked.items (map (λ k. k.now) (drop index row)) (map (λ k. k.now) (drop (index + 1) row)) c.one-item.result.now next c.in_ok-add_asked.ensures c.loop-one.invariant
