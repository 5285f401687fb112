use Rattle.std.proofs.Common.{◌≡◌, ◌<◌, ℕ, false, get_or}
use Rattle.tks_bind.proofs.search.is_any.Given as goal

-- none so far is
abbrev pub invariant-loop-is_chosen : goal.invariant-loop-is_chosen
invariant-loop-is_chosen l = (n : ℕ) → n < l.is_chosen-index → get_or l.row n false ≡ false
