use Rattle.std.proofs.Common.{◌≡◌, ◌++◌, refl, subst}
use Rattle.tks_spelling.specs.Spelling.{list}
use Rattle.tks_spelling.specs.Writing.{PutsSo}
use Rattle.tks_spelling.proofs.Puts.{put_behind, where_put}
use Rattle.tks_codec_events.specs.Timers.{timer, idle}
use Rattle.tks_codec_events.proofs.timers.put_waiting.Goals as goal

pub returns-clause-puts : goal.returns-clause-puts
returns-clause-puts c =
    let w = c.args.timers.now in
    let old = c.args.out.now.items in
    let mid = c.put_items.new.out.items in
    let new = c.put_items-2.new.out.items in
    let r = c.put_items-2.result in
    put_behind r old ((list timer).write w.timers) mid ((list idle).write w.idles) new
    (subst (λ ts. mid ≡ old ++ (list timer).write ts) c.timers.ensures c.in_ok-put_items.ensures.puts)
    (subst (λ is. PutsSo r mid new ((list idle).write is)) c.idles.ensures c.put_items-2.ensures.puts)

pub returns-clause-legal : goal.returns-clause-legal
returns-clause-legal c =
    let timers = subst (λ ts. (list timer).Legal ts) c.timers.ensures c.in_ok-put_items.ensures.legal in
    where_put c.put_items-2.result
    (λ legal. ((timers, (subst (λ is. (list idle).Legal is) c.idles.ensures legal, refl)), c.next.ensures.formed.waiting))
    c.put_items-2.ensures.legal
