use Rattle.std.proofs.Common.{◌≡◌, ◌++◌, None, take}
use Rattle.std.specs.List.{AllByRecursion}
use Rattle.tks_spelling.specs.Spelling.{members}
use Rattle.tks_spelling.proofs.member.put_each.Given as goal

abbrev pub invariant-loop-x : goal.invariant-loop-x
invariant-loop-x g l = (l.out.items ≡ l.fn.out.items ++ members (λ before. g.M.Members.spelling l.members) None (take l.x-index l.xs)) × AllByRecursion (g.M.Members.spelling l.members).Legal (take l.x-index l.xs)
