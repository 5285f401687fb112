use Rattle.std.proofs.Common.{List, ℕ, length, sym, ap, ◌∙◌}
use Rattle.tks_lines.specs.Breaks.{breaks_from}
use Rattle.tks_lines.specs.Stretch.{part}
use Rattle.tks_lines.proofs.Breaking.{count_all_from}
use Rattle.tks_lines.proofs.stretch.Stretch.newlines.Goals as goal

pub returns : goal.returns
returns c =
    let first = c.self.inside.first in
    let last = c.self.inside.last in
    let breaks = c.breaks_between.ensures ∙ ap (λ (p : List ℕ). breaks_from first (part first last p)) c.get.ensures ∙ ap (breaks_from first) c.self.view_is in
    ap length breaks ∙ sym (count_all_from first c.args.self.now)
