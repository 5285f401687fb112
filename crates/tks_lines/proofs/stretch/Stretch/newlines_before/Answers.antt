use Rattle.std.proofs.Common.{◌≡◌, List, ℕ, ◌+◌, min, take, length, sym, ap, ◌∙◌}
use Rattle.std.specs.List.{count_by}
use Rattle.tks_lines.specs.Places.{is_newline}
use Rattle.tks_lines.specs.Breaks.{breaks_from}
use Rattle.tks_lines.specs.Stretch.{part}
use Rattle.tks_lines.proofs.Parted.{count_part}
use Rattle.tks_lines.proofs.stretch.Stretch.newlines_before.Goals as goal

pub returns : goal.returns
returns c =
    let first = c.self.inside.first in
    let last = c.self.inside.last in
    let place = c.args.place in
    let count = c.min.result in
    let e : count ≡ min place (length (part first last c.self.inside.piece)) = c.min.ensures ∙ ap (min place) (c.len.ensures.value ∙ ap length (sym c.self.view_is)) in
    let breaks = c.breaks_between.ensures ∙ ap (λ (p : List ℕ). breaks_from first (part first (first + count) p)) c.get.ensures in
    ap length breaks
    ∙ count_part first last place count c.self.inside.piece c.self.invariant.0 c.self.invariant.1.0 e
    ∙ ap (λ text. count_by is_newline (take place text)) c.self.view_is
