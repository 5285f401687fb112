use Rattle.std.proofs.Common.{◌≡◌, ◌<◌, false, length, get_or, arith}
use Rattle.tks_parse.specs.Braces.{ends_comment}
use Rattle.tks_parse.proofs.Scans.{comment_goes}
use Rattle.tks_parse.proofs.braces.comment_len.Goals as goal

pub comment-preserved : goal.comment-preserved
comment-preserved c =
    let q = c.comment.quoted in
    let i = c.comment.c-index in
    let e : ends_comment q (get_or c.args.text.now i 0) ≡ false = cc in
    let lt : i < length c.args.text.now = omega arith in
    let s = comment_goes c.args.text.now i q lt e in
    record {
      index = omega arith;
      so_far = rw c.quotes-quoted.ensures (omega (arith, s, c.comment.invariant.so_far));
    }
