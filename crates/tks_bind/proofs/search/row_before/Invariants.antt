use Rattle.std.proofs.Common.{Decides, ℕ, false, get_or}
use Rattle.tks_bind.proofs.Noting.{Before}
use Rattle.tks_bind.proofs.search.row_before.Given as goal

-- those before the events so far are noted
abbrev pub invariant-loop-place : goal.invariant-loop-place
invariant-loop-place l = (n : ℕ) → Decides (get_or l.row n false) (Before l.earlier l.later l.history l.behind l.place n)
