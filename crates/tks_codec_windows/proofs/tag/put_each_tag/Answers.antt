use Rattle.std.proofs.Common.{◌≡◌, ◌<◌, ◌++◌, None, take, length, get_or, subst}
use Rattle.std.proofs.lemmas.Result.{err_from_is_err_and}
use Rattle.tks_spelling.specs.Spelling.{members}
use Rattle.tks_spelling.proofs.Loop.{one_put, one_holds, one_of_all}
use Rattle.tks_spelling.proofs.Puts.{put_refused}
use Rattle.tks_codec_windows.specs.Lines.{tag}
use Rattle.tks_codec_windows.proofs.tag.put_each_tag.Goals as goal

pub returns-in_err-put_tag-clause-puts : goal.returns-in_err-put_tag-clause-puts
returns-in_err-put_tag-clause-puts c =
    let p = err_from_is_err_and c.from_residual.result c.from_residual.ensures.1 in
    let t = c.args.widget.now in
    rw p.1 (put_refused c.args.out.now.items (members (λ before. tag (length t.text)) None (take c.loop-tag.tag-index t.tags)) c.loop-tag.out.items c.put_tag.new.out.items c.loop-tag.invariant.0 c.in_err-put_tag.ensures.puts)

pub loop-tag-preserved : goal.loop-tag-preserved
loop-tag-preserved c =
    let t = c.args.widget.now in
    let i = c.loop-tag.tag-index in
    let x = c.tag-item.result in
    let lt = subst (λ ys. i < length ys) c.tags-tag-items.ensures.value c.loop-tag-test.true in
    let is = subst (λ ys. x ≡ get_or ys i x) c.tags-tag-items.ensures.value c.tag-item.is in
    let long = one_of_all (λ g. length g.on ≡ length t.text) t.tags i x lt is c.requires.long in (
      one_put (λ before. tag (length t.text)) t.tags i x c.args.out.now.items c.loop-tag.out.items c.put_tag.new.out.items lt is c.loop-tag.invariant.0 (subst (λ n. c.put_tag.new.out.items ≡ c.loop-tag.out.items ++ (tag n).write x) long c.in_ok-put_tag.ensures.puts),
      one_holds ((tag (length t.text)).Legal) t.tags i x lt is c.loop-tag.invariant.1 (subst (λ n. (tag n).Legal x) long c.in_ok-put_tag.ensures.legal),
    )
