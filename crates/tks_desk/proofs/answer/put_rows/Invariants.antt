-- What was written, and what is to follow, is the whole.
use Rattle.std.proofs.Common.{◌≡◌, List, ℕ, ◌++◌, drop}
use Rattle.std.specs.Io.KnownBytes.{Appends}
use Rattle.tks_desk.specs.Answers.{rows_lines}
use Rattle.tks_desk.proofs.answer.put_rows.Given as goal

abbrev pub invariant-loop-row : goal.invariant-loop-row
invariant-loop-row g l =
    (done : List ℕ) × Appends (g.W.Write.contents l.fn.writer) (g.W.Write.contents l.writer) done × (done ++ rows_lines (drop l.row-index l.rows) ≡ rows_lines l.rows)
