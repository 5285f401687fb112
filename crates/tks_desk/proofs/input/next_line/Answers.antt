use Rattle.std.proofs.Common.{◌∙◌, sym}
use Rattle.tks_desk.proofs.Lines.{begun_pays, pays_on, piece_pays, ends_at_newline, ends_with_input}
use Rattle.tks_desk.proofs.input.next_line.Goals as goal

pub returns-in-EndsAtNewline-clause-line : goal.returns-in-EndsAtNewline-clause-line
returns-in-EndsAtNewline-clause-line g c =
    let taken = c.in_ok-take_piece.ensures.taken in
    ends_at_newline _ _ _ _ _ _ _ _ taken.0 c.loop-left.invariant taken.1 taken.2 taken.3 c.in-EndsAtNewline.is

pub returns-in-EndsWithInput-2-clause-line : goal.returns-in-EndsWithInput-2-clause-line
returns-in-EndsWithInput-2-clause-line g c =
    let taken = c.in_ok-take_piece.ensures.taken in
    ends_with_input _ _ _ _ _ _ _ _ taken.0 c.loop-left.invariant taken.1 taken.2 taken.3 c.in-EndsWithInput-2.is
    (λ bytes is. sym c.if-is_empty.false ∙ c.is_empty.ensures bytes is)

pub returns-in_err-take_piece-clause-pays : goal.returns-in_err-take_piece-clause-pays
returns-in_err-take_piece-clause-pays g c = pays_on _ _ _ _ _ _ (begun_pays _ _ _ _ _ c.loop-left.invariant) c.in_err-take_piece.ensures.pays

pub returns-in-EndsAtNewline-clause-pays : goal.returns-in-EndsAtNewline-clause-pays
returns-in-EndsAtNewline-clause-pays g c =
    let taken = c.in_ok-take_piece.ensures.taken in
    pays_on _ _ _ _ _ _ (begun_pays _ _ _ _ _ c.loop-left.invariant) (piece_pays _ _ _ _ _ taken.0 taken.3 taken.4)
