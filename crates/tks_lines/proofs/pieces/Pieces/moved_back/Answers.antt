use Rattle.tks_lines.proofs.Parted.{moved_back}
use Rattle.tks_lines.proofs.pieces.Pieces.moved_back.Goals as goal

pub returns-clause-same : goal.returns-clause-same
returns-clause-same c =
    let old = c.args.self.now in
    rw (c.in_ok-front.ensures, c.in_ok-front-2.ensures, c.in_ok-joined.ensures, c.in_ok-moved.ensures) (moved_back c.args.place old.front old.typed old.behind)
