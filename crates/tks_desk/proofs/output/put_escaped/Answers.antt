use Rattle.std.proofs.Common.{◌++◌, ◌∙◌, sym, ap, subst, append_assoc}
use Rattle.std.proofs.lemmas.List.{at_drop_more}
use Rattle.std.proofs.KnownBytes.{Appends-trans}
use Rattle.tks_desk.specs.Writing.{WritesSo, escaped}
use Rattle.tks_desk.proofs.Writes.{then, longer, exit}
use Rattle.tks_desk.proofs.output.put_escaped.Goals as goal

pub returns-in_err-put_escaped_byte : goal.returns-in_err-put_escaped_byte
returns-in_err-put_escaped_byte g c =
    let so_far = c.loop-byte.invariant in
    let next = at_drop_more escaped c.args.text.now c.loop-byte.byte-index 0 c.loop-byte-test.true in
    let failed = c.from_residual.ensures in
    subst (WritesSo _ _ _) (ap (λ l. so_far.0 ++ l) (sym next) ∙ so_far.2)
    (then _ _ _ _ so_far.0 _ so_far.1 (longer _ _ _ _ _ failed.0 (exit _ _ _ _ _ failed.1 c.in_err-put_escaped_byte.ensures)))

pub loop-byte-preserved : goal.loop-byte-preserved
loop-byte-preserved g c =
    let so_far = c.loop-byte.invariant in
    let next = at_drop_more escaped c.args.text.now c.loop-byte.byte-index 0 c.loop-byte-test.true in (
      so_far.0 ++ _,
      Appends-trans _ _ _ so_far.0 _ so_far.1 c.in_ok-put_escaped_byte.ensures,
      append_assoc so_far.0 _ _ ∙ ap (λ l. so_far.0 ++ l) (sym next) ∙ so_far.2,
    )
