use Rattle.std.proofs.Common.{take, length, ap, ◌∙◌, arith}
use Rattle.std.proofs.lemmas.List.{take_all}
use Rattle.std.specs.List.{count_by}
use Rattle.tks_lines.specs.Places.{is_newline}
use Rattle.tks_lines.proofs.lined_text.LinedText.newlines.Goals as goal

pub returns-clause-value : goal.returns-clause-value
returns-clause-value c =
    let text = c.args.self.now in
    c.newlines_before.ensures.value ∙ ap (λ n. count_by is_newline (take n text)) c.len-len.ensures.value ∙ ap (count_by is_newline) (take_all (length text) text (omega arith))
