use Rattle.std.proofs.Common.{drop, ap, ◌∙◌}
use Rattle.std.proofs.lemmas.List.{take_rest}
use Rattle.tks_lines.specs.Breaks.{below}
use Rattle.tks_lines.proofs.Breaking.{behind_place}
use Rattle.tks_lines.proofs.piece.Piece.breaks_behind.Goals as goal

pub returns-clause-value : goal.returns-clause-value
returns-clause-value c =
    let first = c.args.first in
    let breaks = c.breaks-breaks.result.now in
    take_rest breaks c.below.result ∙ ap (λ n. drop n breaks) c.below.ensures.value ∙ ap (λ bs. drop (below first bs) bs) c.breaks-breaks.ensures.value ∙ behind_place first c.args.self.now
