use Rattle.std.proofs.Common.{[], ◌∷◌, refl, subst, arith}
use Rattle.tks_spelling.specs.Spelling.{texts}
use Rattle.tks_spelling.specs.Writing.{PutsSo}
use Rattle.tks_spelling.proofs.Puts.{put_behind, where_put}
use Rattle.tks_codec_windows.proofs.bindtags.put_tags.Goals as goal

pub returns-in_ok-put_presence-in-Some-clause-puts : goal.returns-in_ok-put_presence-in-Some-clause-puts
returns-in_ok-put_presence-in-Some-clause-puts c =
    let r = c.put_list.result in
    let mid = c.put_presence-in-Some.new.out.items in
    let new = c.put_list.new.out.items in
    let behind = subst (λ ts. PutsSo r mid new (texts.write ts)) c.as_slice.ensures.value c.put_list.ensures.puts in
    rw c.in-Some.is (put_behind r c.args.out.now.items (1 ∷ []) mid (texts.write c.in-Some.texts.now) new c.in_ok-put_presence-in-Some.ensures behind)

pub returns-in_ok-put_presence-in-Some-clause-legal : goal.returns-in_ok-put_presence-in-Some-clause-legal
returns-in_ok-put_presence-in-Some-clause-legal c =
    rw c.in-Some.is (where_put c.put_list.result (λ h. ((omega arith, refl), subst texts.Legal c.as_slice.ensures.value h)) c.put_list.ensures.legal)
