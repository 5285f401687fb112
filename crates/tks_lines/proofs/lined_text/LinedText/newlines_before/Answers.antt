use Rattle.std.proofs.Common.{◌≡◌, ◌+◌, ◌-◌, take, length, ap, ◌∙◌, arith}
use Rattle.std.specs.List.{count_by}
use Rattle.tks_lines.specs.Places.{is_newline}
use Rattle.tks_lines.proofs.Breaking.{count_before}
use Rattle.tks_lines.proofs.Parted.{three_counts}
use Rattle.tks_lines.proofs.lined_text.LinedText.newlines_before.Goals as goal

pub returns-clause-value : goal.returns-clause-value
returns-clause-value c =
    let p = c.self.inside.pieces in
    let place = c.args.place in
    let behind : c.saturating_sub-2.result ≡ place - (length p.front + length p.typed) = omega (arith, c.saturating_sub-2.ensures, c.len-front.ensures.value, c.len.ensures.value) in
    rw (c.newlines_before.ensures, c.newlines_before-2.ensures, c.newlines_before-3.ensures, c.saturating_sub.ensures, c.len-front.ensures.value)
    (three_counts place c.saturating_sub-2.result p.front p.typed p.behind behind ∙ ap (λ text. count_by is_newline (take place text)) c.self.view_is)

pub returns-clause-breaks : goal.returns-clause-breaks
returns-clause-breaks c = returns-clause-value c ∙ count_before c.args.self.now c.args.place
