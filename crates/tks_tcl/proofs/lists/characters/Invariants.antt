use Rattle.std.proofs.Common.{◌≡◌, ◌++◌, ◌∷◌, [], drop}
use Rattle.std.specs.Prelude.{map}
use Rattle.tks_tcl.proofs.lists.characters.Given as goal

abbrev pub invariant-loop-c : goal.invariant-loop-c
invariant-loop-c l = l.list ++ map (λ c. c ∷ []) (drop l.c-index l.text) ≡ map (λ c. c ∷ []) l.text
