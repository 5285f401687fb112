use Rattle.tks_lines.proofs.Parted.{typed_more, front_more}
use Rattle.tks_lines.proofs.pieces.Pieces.with.Goals as goal

pub returns-then-len-gt-MAX_TYPED : goal.returns-then-len-gt-MAX_TYPED
returns-then-len-gt-MAX_TYPED c =
    let old = c.args.self.now in
    rw (c.in_ok-joined.ensures, c.in_ok-front.ensures, c.in_ok-joined-2.ensures, c.in_ok-before.ensures, c.in_ok-after.ensures, c.len.ensures.value)
    (front_more c.args.place old.front old.typed old.behind c.args.more.now c.requires.0 c.requires.1)

pub returns : goal.returns
returns c =
    let old = c.args.self.now in
    rw (c.in_ok-share.ensures, c.in_ok-joined-3.ensures, c.in_ok-share-2.ensures, c.in_ok-before.ensures, c.in_ok-after.ensures, c.len.ensures.value)
    (typed_more c.args.place old.front old.typed old.behind c.args.more.now c.requires.0 c.requires.1)
