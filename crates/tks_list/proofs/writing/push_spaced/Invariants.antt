use Rattle.std.proofs.Common.{◌≡◌, ◌++◌, drop}
use Rattle.tks_list.specs.Quoting.{spaced}
use Rattle.tks_list.proofs.writing.push_spaced.Given as goal

abbrev pub invariant-loop-element : goal.invariant-loop-element
invariant-loop-element l = l.text ++ spaced (drop l.element-index l.list) ≡ l.fn.text ++ spaced l.list
