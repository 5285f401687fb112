use Rattle.std.proofs.Common.{◌<◌, [], ◌∷◌, length, arith}
use Rattle.std.proofs.lemmas.Result.{err_from_is_err_and}
use Rattle.tks_text.proofs.Texts.{text_drop}
use Rattle.tks_list.proofs.Loops.{chars_go, chars_stop, chars_err}
use Rattle.tks_list.proofs.reading.read_chars.Goals as goal

pub chars-preserved : goal.chars-preserved
chars-preserved c =
    let read = rw c.in-Some.is at c.in_ok-c.ensures.gives in
    let lt : c.in-Some.more < length c.chars.rest.now = rw c.in-Some.is at c.in_ok-c.ensures.bound in
    record {
      so_far = rw (c.in_ok-push.ensures, c.split_at.ensures.back) (chars_go c.args.ends c.chars.made (c.in-Some.c ∷ []) c.chars.taken c.in-Some.more c.chars.rest.now _ c.chars.invariant.so_far read lt);
      len = omega arith;
      is_text = rw c.split_at.ensures.back (text_drop _ _ c.chars.invariant.is_text);
    }

pub returns-clause-gives : goal.returns-clause-gives
returns-clause-gives c =
    let read = rw c.in_default.is at c.in_ok-c.ensures.gives in
    chars_stop c.args.ends c.chars.made c.chars.taken c.chars.rest.now _ c.chars.invariant.so_far read

pub returns-in_err-c-clause-gives : goal.returns-in_err-c-clause-gives
returns-in_err-c-clause-gives c =
    let p = err_from_is_err_and c.from_residual.result c.from_residual.ensures.1 in
    rw (p.1, p.2) (chars_err c.args.ends c.chars.made c.chars.taken c.chars.rest.now _ c.in_err-c.field-0.0 c.chars.invariant.so_far c.in_err-c.ensures.gives)
