use Rattle.tks_spelling.proofs.Counting.{CountsOn}
use Rattle.tks_spelling.proofs.items.each_length.Given as goal

abbrev pub invariant-loop-x : goal.invariant-loop-x
invariant-loop-x g l = CountsOn (g.M.Members.spelling l.members) l.sum l.x-iterator l.fn.items
