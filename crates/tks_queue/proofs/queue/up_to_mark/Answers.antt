use Rattle.std.proofs.Common.{rules, arith}
use Rattle.tks_queue.proofs.Putting.{none_counted, one_counted}
use Rattle.tks_queue.proofs.queue.up_to_mark.Goals as goal

pub loop-queued-init : goal.loop-queued-init
loop-queued-init c = record {
  behind = search rules;
  within = omega arith;
  count = let none = none_counted c.len-len.result c.args.events.now in search rules;
}

pub loop-queued-preserved-then-queued : goal.loop-queued-preserved-then-queued
loop-queued-preserved-then-queued c = record {
  behind = search rules;
  within = omega arith;
  count = one_counted c.in-Some.queued.now c.next.new.self c.len-len.result c.loop-queued.behind c.loop-queued.count _ c.if-queued.true (search rules) (omega arith) (search rules);
}
