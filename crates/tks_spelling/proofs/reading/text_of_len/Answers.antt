use Rattle.std.proofs.Common.{ℕ, ◌-◌, None, Err, length, refl, sym, ap, subst, ◌∙◌, arith}
use Rattle.tks_text.specs.Text.{IsText}
use Rattle.tks_spelling.proofs.Letters.{letters_fault, letters_read, letters_are_text}
use Rattle.tks_spelling.proofs.reading.text_of_len.Goals as goal

pub returns-then-good-len : goal.returns-then-good-len
returns-then-good-len c =
    let v = c.text_len-good.ensures.value in
    letters_fault None c.args.len c.args.bytes.now (omega (arith, v, c.if-good-len.true)) ∙ ap (λ (k : ℕ). Err (length c.args.bytes.now - k)) (sym v)

pub from_text-requires : goal.from_text-requires
from_text-requires c =
    let v = c.text_len-good.ensures.value in
    subst IsText (sym c.split_at.ensures.front) (letters_are_text c.args.len c.args.bytes.now (omega (arith, v, c.if-good-len.false)))

pub returns : goal.returns
returns c =
    let v = c.text_len-good.ensures.value in
    letters_read None c.args.len c.args.bytes.now (omega (arith, v, c.if-good-len.false)) ∙ rw (c.in_ok-from_text.ensures, c.split_at.ensures.front, c.split_at.ensures.back) refl
