use Rattle.std.proofs.Common.{◌≡◌, ◌++◌, drop}
use Rattle.tks_list.proofs.elements.Elements.append.Given as goal

abbrev pub invariant-loop-index : goal.invariant-loop-index
invariant-loop-index l = l.self ++ drop l.index l.more ≡ l.fn.self ++ l.more
