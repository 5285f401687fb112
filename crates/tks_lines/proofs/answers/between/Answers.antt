use Rattle.std.proofs.Common.{◌≡◌, ◌-◌, min, length, take, drop, inl, inr, ap, ◌∙◌}
use Rattle.tks_lines.proofs.Told.{told_inside, told_none}
use Rattle.tks_lines.proofs.answers.between.Goals as goal

pub returns : goal.returns
returns c =
    let text = c.args.text.now in
    let end = c.min-end.result in
    let e : end ≡ min c.args.last (length text) = c.min-end.ensures ∙ ap (min c.args.last) c.len-len.ensures.value in
    let part = c.in_ok-cut.ensures ∙ ap (λ n. take (end - n) (drop n text)) c.min.ensures in
    elim c.else-end-last.either [
      | inl past ↦ part ∙ told_none c.args.first c.args.last end text e (rw (← c.len-len.ensures.value) past.1)
      | inr within ↦ part ∙ told_inside c.args.first c.args.last end text e within
    ]
