use Rattle.tks_lines.proofs.Parted.{less}
use Rattle.tks_lines.proofs.pieces.Pieces.without.Goals as goal

pub returns : goal.returns
returns c =
    let old = c.args.self.now in
    rw (c.in_ok-front.ensures, c.in_ok-joined.ensures, c.in_ok-behind.ensures, c.in_ok-before.ensures, c.in_ok-after.ensures, c.saturating_sub.ensures, c.min.ensures, c.min-2.ensures, c.saturating_sub-2.ensures, c.len-front.ensures.value, c.len-typed.ensures.value)
    (less c.args.first c.args.last old.front old.typed old.behind c.requires.order.0 c.requires.there.0 c.requires.there.1)
