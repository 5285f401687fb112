use Rattle.std.proofs.Common.{◌≡◌, ◌++◌, drop}
use Rattle.tks_list.proofs.elements.Elements.to_texts.Given as goal

abbrev pub invariant-loop-index : goal.invariant-loop-index
invariant-loop-index l = l.texts ++ drop l.index l.self ≡ l.self
