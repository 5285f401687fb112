use Rattle.std.proofs.Common.{◌≡◌, ◌++◌, length, drop}
use Rattle.std.specs.Prelude.{◌==◌, map, filter, not}
use Rattle.tks_tcl.specs.Lists.{trimmed}
use Rattle.tks_tcl.proofs.lists.concatenated.Given as goal

abbrev pub invariant-loop-word : goal.invariant-loop-word
invariant-loop-word l =
    l.kept ++ filter (λ t. not (length t == 0)) (map trimmed (drop l.word-index l.words)) ≡ filter (λ t. not (length t == 0)) (map trimmed l.words)
