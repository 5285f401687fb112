use Rattle.std.proofs.Common.{◌+◌, ◌-◌, ◌<◌, ◌≤◌, length, ap, ◌∙◌, arith}
use Rattle.std.specs.Prelude.{slice_get}
use Rattle.std.specs.List.{count_by}
use Rattle.tks_lines.specs.Places.{is_newline}
use Rattle.tks_lines.specs.Breaks.{breaks_from, breaks_of}
use Rattle.tks_lines.proofs.Parted.{break_front, break_typed, break_behind}
use Rattle.tks_lines.proofs.lined_text.LinedText.break_at.Goals as goal

pub returns-then-others-front : goal.returns-then-others-front
returns-then-others-front c =
    let p = c.self.inside.pieces in
    let here : c.args.others < count_by is_newline p.front = omega (arith, c.newlines-front.ensures, c.if-others-front.true) in
    c.break_at.ensures ∙ break_front c.args.others p.front p.typed p.behind here ∙ ap (λ text. slice_get (breaks_of text) c.args.others) c.self.view_is

pub returns-then-others-typed : goal.returns-then-others-typed
returns-then-others-typed c =
    let p = c.self.inside.pieces in
    let others = c.args.others in
    let low : count_by is_newline p.front ≤ others = omega (arith, c.newlines-front.ensures, c.if-others-front.false) in
    let high : others < count_by is_newline p.front + count_by is_newline p.typed = omega (arith, c.newlines-front.ensures, c.newlines.ensures, c.if-others-typed.true) in
    c.break_at-then-others-typed.ensures
    ∙ ap (λ n. slice_get (breaks_from n p.typed) (others - c.newlines-front.result)) c.len-begin.ensures.value
    ∙ ap (λ n. slice_get (breaks_from (length p.front) p.typed) (others - n)) c.newlines-front.ensures
    ∙ break_typed others p.front p.typed p.behind low high
    ∙ ap (λ text. slice_get (breaks_of text) others) c.self.view_is

pub returns : goal.returns
returns c =
    let p = c.self.inside.pieces in
    let others = c.args.others in
    let low : count_by is_newline p.front + count_by is_newline p.typed ≤ others = omega (arith, c.newlines-front.ensures, c.newlines.ensures, c.if-others-typed.false) in
    c.break_at-2.ensures
    ∙ ap (λ n. slice_get (breaks_from (n + c.len.result) p.behind) (others - (c.newlines-front.result + c.newlines.result))) c.len-begin.ensures.value
    ∙ ap (λ n. slice_get (breaks_from (length p.front + n) p.behind) (others - (c.newlines-front.result + c.newlines.result))) c.len.ensures.value
    ∙ ap (λ n. slice_get (breaks_from (length p.front + length p.typed) p.behind) (others - (n + c.newlines.result))) c.newlines-front.ensures
    ∙ ap (λ n. slice_get (breaks_from (length p.front + length p.typed) p.behind) (others - (count_by is_newline p.front + n))) c.newlines.ensures
    ∙ break_behind others p.front p.typed p.behind low
    ∙ ap (λ text. slice_get (breaks_of text) others) c.self.view_is
