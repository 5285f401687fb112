use Rattle.std.proofs.Common.{◌≡◌, None, take, length}
use Rattle.tks_spelling.specs.Spelling.{members}
use Rattle.tks_spelling.specs.Lengths.{counted}
use Rattle.tks_spelling.proofs.member.each_length.Given as goal

-- those so far are counted
abbrev pub invariant-loop-x : goal.invariant-loop-x
invariant-loop-x g l = l.sum ≡ counted (length (members (λ before. g.M.Members.spelling l.members) None (take l.x-index l.xs)))
