use Rattle.std.proofs.Common.{◌≡◌, ◌++◌, [], ◌∷◌, subst}
use Rattle.tks_spelling.proofs.Puts.{flattened_then, flattened_last}
use Rattle.tks_spelling.specs.declared.format.Format.TheVariants as formats
use Rattle.tks_codec_events.specs.Queue.{queue}
use Rattle.tks_codec_events.specs.Timers.{waiting}
use Rattle.tks_codec.specs.Ends.{ends}
use Rattle.tks_codec.specs.World.{ends_of}
use Rattle.tks_codec.proofs.world.put_waits.Goals as goal

pub returns-clause-puts : goal.returns-clause-puts
returns-clause-puts c =
    let w = c.args.world.now in
    let r = c.put_ends.result in
    let old = c.args.out.now.items in
    let first = c.put_queue.new.out.items in
    let second = c.put_waiting.new.out.items in
    let new = c.put_ends.new.out.items in
    let timers = (waiting w.timers.next).write w.timers in
    let end = (ends formats.Two).write (ends_of w) in
    flattened_then old first new (queue.write w.queue) timers (end ∷ []) r (subst (λ q. first ≡ old ++ queue.write q) c.queue.ensures c.in_ok-put_queue.ensures.puts) (
    flattened_then first second new timers end [] r (subst (λ t. second ≡ first ++ (waiting t.next).write t) c.timers.ensures c.in_ok-put_waiting.ensures.puts) (
    flattened_last r second new end c.put_ends.ensures.puts))
