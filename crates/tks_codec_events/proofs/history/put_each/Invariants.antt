use Rattle.std.proofs.Common.{◌≡◌, ◌++◌, None, length, take}
use Rattle.std.specs.List.{AllByRecursion}
use Rattle.tks_spelling.specs.Spelling.{members}
use Rattle.tks_codec_events.specs.Event.{event}
use Rattle.tks_codec_events.proofs.history.put_each.Given as goal

abbrev pub invariant-loop-event : goal.invariant-loop-event
invariant-loop-event l = record {
  there : take (length l.fn.out.items) l.out.items ≡ l.fn.out.items;
  all : l.out.items ++ members (λ before. event) None l.event-iterator ≡ l.fn.out.items ++ members (λ before. event) None l.fn.past;
  legal : AllByRecursion event.Legal l.event-iterator → AllByRecursion event.Legal l.fn.past;
}
