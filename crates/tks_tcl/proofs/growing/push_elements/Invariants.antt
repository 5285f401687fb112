use Rattle.std.proofs.Common.{◌≡◌, ◌++◌, take}
use Rattle.tks_tcl.proofs.growing.push_elements.Given as goal

abbrev pub invariant-loop-element : goal.invariant-loop-element
invariant-loop-element l = l.list ≡ l.fn.list ++ take l.element-index l.elements
