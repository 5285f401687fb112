use Rattle.std.proofs.Common.{◌≡◌, ◌<◌, ◌∙◌, length, get_or, subst}
use Rattle.tks_spelling.specs.Lengths.{counted}
use Rattle.tks_spelling.proofs.Counting.{one_counted}
use Rattle.tks_spelling.proofs.Loop.{one_of_all}
use Rattle.tks_codec_windows.specs.Lines.{tag}
use Rattle.tks_codec_windows.proofs.tag.each_tag_length.Goals as goal

pub loop-tag-preserved : goal.loop-tag-preserved
loop-tag-preserved c =
    let t = c.args.widget.now in
    let i = c.loop-tag.tag-index in
    let x = c.tag-item.result in
    let lt = subst (λ ys. i < length ys) c.tags-tag-items.ensures.value c.loop-tag-test.true in
    let is = subst (λ ys. x ≡ get_or ys i x) c.tags-tag-items.ensures.value c.tag-item.is in
    let long = one_of_all (λ g. length g.on ≡ length t.text) t.tags i x lt is c.requires in
    let this = subst (λ n. c.tag_length.result ≡ counted (length ((tag n).write x))) long c.tag_length.ensures in
    c.saturating_add-sum.ensures ∙ one_counted (tag (length t.text)) t.tags i x c.loop-tag.sum c.tag_length.result lt is c.loop-tag.invariant this
