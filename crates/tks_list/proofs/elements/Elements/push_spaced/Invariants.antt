use Rattle.std.proofs.Common.{◌≡◌, ◌++◌, take, drop}
use Rattle.tks_list.specs.Quoting.{spaced}
use Rattle.tks_list.proofs.elements.Elements.push_spaced.Given as goal

abbrev pub invariant-loop-index : goal.invariant-loop-index
invariant-loop-index l = l.text ++ spaced (drop l.index (take l.behind l.self)) ≡ l.fn.text ++ spaced (drop l.front (take l.behind l.self))
