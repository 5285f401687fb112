use Rattle.std.proofs.Common.{◌+◌, ◌^◌, ◌≤◌, List, ℕ, length, ap, ◌∙◌, arith}
use Rattle.tks_lines.specs.Breaks.{breaks_from}
use Rattle.tks_lines.specs.Stretch.{part}
use Rattle.tks_lines.proofs.Breaking.{small_moved, moved_breaks}
use Rattle.tks_lines.proofs.Parted.{part_long}
use Rattle.tks_lines.proofs.stretch.Stretch.push_breaks.Goals as goal

pub push_moved-requires : goal.push_moved-requires
push_moved-requires c =
    let first = c.self.inside.first in
    let last = c.self.inside.last in
    let text = part first last c.self.inside.piece in
    let breaks = c.breaks_between-breaks.ensures ∙ ap (λ (p : List ℕ). breaks_from first (part first last p)) c.get.ensures in
    let long = part_long first last c.self.inside.piece c.self.invariant.0 c.self.invariant.1.0 in
    let room : first + length text + c.args.begin ≤ 2 ^ 64 = omega (arith, long, c.self.invariant.0, c.self.invariant.1.0, c.self.invariant.1.1, c.requires) in
    rw breaks (small_moved first c.args.begin (2 ^ 64) text room)

pub returns : goal.returns
returns c =
    let first = c.self.inside.first in
    let last = c.self.inside.last in
    let breaks = c.breaks_between-breaks.ensures ∙ ap (λ (p : List ℕ). breaks_from first (part first last p)) c.get.ensures ∙ ap (breaks_from first) c.self.view_is in
    rw (breaks, moved_breaks first c.args.begin c.args.self.now) at c.push_moved.ensures
