use Rattle.std.proofs.Common.{◌≡◌, ◌++◌, map, drop}
use Rattle.tks_state.specs.Laid.{asked_by}
use Rattle.tks_state.proofs.layout.asked_by.Given as goal

-- with those further on, what was asked so far is all
abbrev pub invariant-loop-one : goal.invariant-loop-one
invariant-loop-one l = l.asked.items ++ asked_by l.variables (map (λ k. k.now) (drop l.one-index l.row)) ≡ asked_by l.variables (map (λ k. k.now) l.fn.row)
