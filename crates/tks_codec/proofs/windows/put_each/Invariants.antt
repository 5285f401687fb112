use Rattle.std.proofs.Common.{◌≡◌, ◌++◌, None, take}
use Rattle.std.specs.List.{AllByRecursion}
use Rattle.tks_spelling.specs.Spelling.{members}
use Rattle.tks_codec.specs.Line.{line}
use Rattle.tks_codec.specs.Windows.{packings_of, lines_from}
use Rattle.tks_codec.proofs.windows.put_each.Given as goal

-- those so far were put, and have spellings
abbrev pub invariant-loop-index : goal.invariant-loop-index
invariant-loop-index l =
    (l.out.items ≡ l.fn.out.items ++ members (λ before. line) None (take l.index (lines_from (packings_of l.kept) l.tree.windows l.kept)))
    × AllByRecursion line.Legal (take l.index (lines_from (packings_of l.kept) l.tree.windows l.kept))
