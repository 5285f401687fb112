use Rattle.tks_spelling.proofs.Counting.{CountsOn}
use Rattle.tks_codec_events.specs.Event.{event}
use Rattle.tks_codec_events.proofs.history.each_length.Given as goal

abbrev pub invariant-loop-event : goal.invariant-loop-event
invariant-loop-event l = CountsOn event l.sum l.event-iterator l.fn.past
