use Rattle.std.proofs.Common.{ℕ, drop}
use Rattle.tks_tree.specs.Windows.{Chooses}
use Rattle.tks_tree.proofs.focus.first_accepted.Given as goal

-- what is chosen of those further on is chosen of all
abbrev pub invariant-loop-id : goal.invariant-loop-id
invariant-loop-id g l = (chosen : ℕ) → Chooses (goal.F-post g l.accepts) (drop l.id-index l.ids) l.otherwise chosen → Chooses (goal.F-post g l.accepts) l.fn.ids l.otherwise chosen
