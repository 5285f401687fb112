use Rattle.std.proofs.Common.{List, ℕ, ◌+◌, drop, length, ap, ◌∙◌, arith}
use Rattle.tks_lines.specs.Stretch.{part}
use Rattle.tks_lines.proofs.Parted.{part_long, part_behind}
use Rattle.tks_lines.proofs.stretch.Stretch.behind.Goals as goal

pub returns : goal.returns
returns c =
    let first = c.self.inside.first in
    let last = c.self.inside.last in
    let count = c.args.count in
    let long = part_long first last c.self.inside.piece c.self.invariant.0 c.self.invariant.1.0 in
    let same = ap length c.self.view_is in
    ap (λ (p : List ℕ). part (first + count) last p) c.in_ok-share.ensures
    ∙ part_behind first last count c.self.inside.piece (omega (arith, long, same, c.requires))
    ∙ ap (drop count) c.self.view_is
