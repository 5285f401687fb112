use Rattle.std.proofs.Common.{◌++◌, None, sym, subst}
use Rattle.std.specs.List.{AllByRecursion}
use Rattle.tks_spelling.specs.Spelling.{members}
use Rattle.tks_spelling.proofs.Loop.{one_given, stays_there}
use Rattle.tks_codec_events.specs.Event.{event}
use Rattle.tks_codec_events.proofs.history.put_each.Goals as goal

pub loop-event-preserved : goal.loop-event-preserved
loop-event-preserved c =
    let old = c.args.out.now.items in
    let e = c.in-Some.event.now in
    let is = c.in-Some.ensures.steps in
    record {
      there = stays_there old c.loop-event.out.items (event.write e) c.put_event.new.out.items c.loop-event.invariant.there c.in_ok-put_event.ensures.puts;
      all = one_given event c.loop-event.out.items c.put_event.new.out.items (old ++ members (λ before. event) None c.args.past) c.loop-event.event-iterator e c.next.new.self is c.in_ok-put_event.ensures.puts c.loop-event.invariant.all;
      legal = λ h. c.loop-event.invariant.legal (subst (AllByRecursion event.Legal) (sym is) (c.in_ok-put_event.ensures.legal, h));
    }
