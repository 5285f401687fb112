use Rattle.std.proofs.Common.{◌≡◌, ◌++◌, None, length, take}
use Rattle.std.specs.List.{AllByRecursion}
use Rattle.tks_vars.specs.Table.{HasName}
use Rattle.tks_spelling.specs.Spelling.{members}
use Rattle.tks_codec_variables.specs.Table.{entry}
use Rattle.tks_codec_variables.proofs.table.put_each.Given as goal

-- those further on are put behind those so far
abbrev pub invariant-loop-name : goal.invariant-loop-name
invariant-loop-name g l = record {
  names : AllByRecursion HasName l.name-iterator;
  there : take (length l.fn.out.items) l.out.items ≡ l.fn.out.items;
  all : l.out.items ++ members (λ before. entry (g.M.Members.spelling l.values)) None l.name-iterator ≡ l.fn.out.items ++ members (λ before. entry (g.M.Members.spelling l.values)) None l.fn.entries;
  legal : AllByRecursion (entry (g.M.Members.spelling l.values)).Legal l.name-iterator → AllByRecursion (entry (g.M.Members.spelling l.values)).Legal l.fn.entries;
}
