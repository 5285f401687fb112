use Rattle.std.proofs.Common.{◌≡◌, min, max, length, ap, ◌∙◌}
use Rattle.tks_lines.specs.Lines.{cut}
use Rattle.tks_lines.proofs.Parted.{cut_inside}
use Rattle.tks_lines.proofs.lined_text.LinedText.delete.Goals as goal

pub returns-clause-ok : goal.returns-clause-ok
returns-clause-ok c =
    let text = c.args.self.now in
    let first : c.min-first.result ≡ min c.args.first (length text) = c.min-first.ensures ∙ ap (min c.args.first) c.len-len.ensures.value in
    let last : c.min-last.result ≡ min (max c.args.last c.args.first) (length text) = c.min-last.ensures ∙ ap (λ n. min n c.len-len.result) c.max.ensures ∙ ap (min (max c.args.last c.args.first)) c.len-len.ensures.value in
    c.in_ok-pieces.ensures
    ∙ ap (cut c.min-first.result c.min-last.result) (c.in_ok-moved.ensures.same ∙ c.self.view_is)
    ∙ ap (λ n. cut n c.min-last.result text) first
    ∙ ap (λ n. cut (min c.args.first (length text)) n text) last
    ∙ cut_inside c.args.first c.args.last text
