use Rattle.tks_spelling.proofs.Counting.{one_more_counted, all_counted}
use Rattle.tks_codec_events.specs.Event.{event}
use Rattle.tks_codec_events.proofs.history.each_length.Goals as goal

pub loop-event-preserved : goal.loop-event-preserved
loop-event-preserved c =
    one_more_counted event c.loop-event.sum c.event_length.result c.saturating_add-sum.result c.loop-event.event-iterator c.in-Some.event.now c.next.new.self c.args.past c.in-Some.ensures.steps c.event_length.ensures c.saturating_add-sum.ensures c.loop-event.invariant

pub returns : goal.returns
returns c = all_counted event c.loop-event.sum c.loop-event.event-iterator c.args.past c.in-None.ensures.steps.0 c.loop-event.invariant
