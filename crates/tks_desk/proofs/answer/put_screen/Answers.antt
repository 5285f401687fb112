use Rattle.std.proofs.Common.{subst, append-nil}
use Rattle.tks_desk.specs.Writing.{WritesSo}
use Rattle.tks_desk.specs.Answers.{rows_lines}
use Rattle.tks_desk.proofs.Writes.{then}
use Rattle.tks_desk.proofs.answer.put_screen.Goals as goal

pub returns : goal.returns
returns g c = subst (WritesSo _ _ _) (append-nil (rows_lines c.args.grid.now.rows)) (then _ _ _ _ (rows_lines c.args.grid.now.rows) _ (rw c.rows.ensures at c.in_ok-put_rows.ensures) c.put_last.ensures)
