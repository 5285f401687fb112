use Rattle.std.proofs.Common.{◌≡◌, ◌++◌, map}
use Rattle.tks_state.proofs.layout.in_a_row.Given as goal

-- those so far, and then the others
abbrev pub invariant-loop-one : goal.invariant-loop-one
invariant-loop-one l = map (λ k. k.now) l.row.items ++ l.one-iterator ≡ l.fn.kept
