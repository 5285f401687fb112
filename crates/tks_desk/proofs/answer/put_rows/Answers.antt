use Rattle.std.proofs.Common.{drop, ◌+◌, ◌++◌, ◌∙◌, sym, ap, subst, append_assoc}
use Rattle.std.proofs.lemmas.List.{at_drop_more}
use Rattle.std.proofs.KnownBytes.{Appends-trans}
use Rattle.tks_desk.specs.Writing.{WritesSo}
use Rattle.tks_desk.specs.Answers.{row_line, rows_lines}
use Rattle.tks_desk.proofs.Writes.{then, longer, exit}
use Rattle.tks_desk.proofs.answer.put_rows.Goals as goal

pub returns-in_err-put_row : goal.returns-in_err-put_row
returns-in_err-put_row g c =
    let so_far = c.loop-row.invariant in
    let next = at_drop_more rows_lines c.args.rows.now c.loop-row.row-index c.row-item.result c.loop-row-test.true
    ∙ ap (λ r. row_line r ++ rows_lines (drop (c.loop-row.row-index + 1) c.args.rows.now)) (sym c.row-item.is) in
    let failed = c.from_residual.ensures in
    subst (WritesSo _ _ _) (ap (λ l. so_far.0 ++ l) (sym next) ∙ so_far.2)
    (then _ _ _ _ so_far.0 _ so_far.1 (longer _ _ _ _ _ failed.0 (exit _ _ _ _ _ failed.1 c.in_err-put_row.ensures)))

pub loop-row-preserved : goal.loop-row-preserved
loop-row-preserved g c =
    let so_far = c.loop-row.invariant in
    let next = at_drop_more rows_lines c.args.rows.now c.loop-row.row-index c.row-item.result c.loop-row-test.true
    ∙ ap (λ r. row_line r ++ rows_lines (drop (c.loop-row.row-index + 1) c.args.rows.now)) (sym c.row-item.is) in (
      so_far.0 ++ _,
      Appends-trans _ _ _ so_far.0 _ so_far.1 c.in_ok-put_row.ensures,
      append_assoc so_far.0 _ _ ∙ ap (λ l. so_far.0 ++ l) (sym next) ∙ so_far.2,
    )
