use Rattle.std.proofs.Common.{◌<◌, ◌^◌, ◌++◌, None, length, sym, ◌∙◌, ap, subst, arith}
use Rattle.std.specs.Prelude.{map}
use Rattle.std.specs.Int.{w32, w64, to_be_bytes}
use Rattle.std.proofs.lemmas.List.{length-map}
use Rattle.tks_pack.specs.declared.packing.Content.{Content}
use Rattle.tks_spelling.specs.Spelling.{members, number}
use Rattle.tks_spelling.specs.Writing.{PutsSo}
use Rattle.tks_spelling.proofs.Loop.{each_is_legal}
use Rattle.tks_spelling.proofs.Puts.{put_behind, where_put}
use Rattle.tks_codec_windows.proofs.OfContents.{all_numbers}
use Rattle.tks_codec_windows.proofs.contents.put_contents.Goals as goal

pub returns-clause-puts : goal.returns-clause-puts
returns-clause-puts c =
    let window = λ (c : Content). c.window in
    let cs = c.args.packing.now.contents in
    let xs = map window cs in
    let r = c.put_each.result in
    let old = c.args.out.now.items in
    let new = c.put_each.new.out.items in
    let count = c.len.ensures.value ∙ sym (length-map cs window) in
    let first = c.in_ok-put_u32.ensures ∙ ap (λ n. old ++ to_be_bytes w32 n) count in
    let last = subst (λ ys. PutsSo r c.put_u32.new.out.items new (members (λ before. number w64) None (map window ys))) c.contents.ensures c.put_each.ensures.puts in
    put_behind r old (to_be_bytes w32 (length xs)) c.put_u32.new.out.items (members (λ before. number w64) None xs) new first last

pub returns-clause-legal : goal.returns-clause-legal
returns-clause-legal c =
    let window = λ (c : Content). c.window in
    let cs = c.args.packing.now.contents in
    let few : length (map window cs) < 2 ^ 32 = omega (arith, length-map cs window, c.len.ensures.short) in
    where_put c.put_each.result (λ h. (few, each_is_legal (number w64) None (map window cs) (all_numbers cs c.contents.result c.contents.ensures h))) c.put_each.ensures.legal
