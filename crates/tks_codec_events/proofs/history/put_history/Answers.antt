use Rattle.std.proofs.Common.{rules, ◌≡◌, ◌++◌, length, None, true, OnOk, subst, arith}
use Rattle.std.specs.Int.{w32, to_be_bytes}
use Rattle.std.specs.List.{AllByRecursion}
use Rattle.tks_text.specs.Short.{IsShort}
use Rattle.tks_spelling.specs.Spelling.{members}
use Rattle.tks_spelling.specs.Writing.{PutsSo}
use Rattle.tks_spelling.proofs.Loop.{each_is_legal}
use Rattle.tks_spelling.proofs.Puts.{put_behind, where_put}
use Rattle.tks_codec_events.specs.Event.{event}
use Rattle.tks_codec_events.specs.History.{is_history}
use Rattle.tks_codec_events.proofs.history.put_history.Goals as goal

pub returns-clause-puts : goal.returns-clause-puts
returns-clause-puts c =
    let history = c.args.history.now in
    let old = c.args.out.now.items in
    let begun = c.put_u32.new.out.items in
    let put = c.put_each.new.out.items in
    let count = subst (λ n. begun ≡ old ++ to_be_bytes w32 n) c.len.ensures.value c.in_ok-put_u32.ensures in
    let each = subst (λ l. PutsSo c.put_each.result begun put (members (λ before. event) None l)) c.events.ensures.value c.put_each.ensures.puts in
    put_behind c.put_each.result old (to_be_bytes w32 (length history)) begun (members (λ before. event) None history) put count each

pub returns-clause-legal : goal.returns-clause-legal
returns-clause-legal c =
    let history = c.args.history.now in
    let short : IsShort history = omega (arith, c.len.ensures.within) in
    let is : is_history history ≡ true = search rules in
    let each = subst (λ l. OnOk c.put_each.result (AllByRecursion event.Legal l)) c.events.ensures.value c.put_each.ensures.legal in
    where_put c.put_each.result (λ legal. ((short, each_is_legal event None history legal), is)) each
