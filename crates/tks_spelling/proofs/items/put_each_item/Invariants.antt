use Rattle.std.proofs.Common.{◌≡◌, ◌++◌, None, length, take}
use Rattle.std.specs.List.{AllByRecursion}
use Rattle.tks_spelling.specs.Spelling.{members}
use Rattle.tks_spelling.proofs.items.put_each_item.Given as goal

abbrev pub invariant-loop-x : goal.invariant-loop-x
invariant-loop-x g l = record {
  sound : AllByRecursion (g.M.Members.IsSound l.members) l.x-iterator;
  there : take (length l.fn.out.items) l.out.items ≡ l.fn.out.items;
  all : l.out.items ++ members (λ before. (g.M.Members.spelling l.members)) None l.x-iterator ≡ l.fn.out.items ++ members (λ before. (g.M.Members.spelling l.members)) None l.fn.items;
  legal : AllByRecursion (g.M.Members.spelling l.members).Legal l.x-iterator → AllByRecursion (g.M.Members.spelling l.members).Legal l.fn.items;
}
