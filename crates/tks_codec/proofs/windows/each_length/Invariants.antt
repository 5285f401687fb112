use Rattle.std.proofs.Common.{◌≡◌, None, [], take, length}
use Rattle.tks_spelling.specs.Spelling.{members}
use Rattle.tks_spelling.specs.Lengths.{counted}
use Rattle.tks_codec.specs.Line.{line}
use Rattle.tks_codec.specs.Windows.{lines_from}
use Rattle.tks_codec.proofs.windows.each_length.Given as goal

-- those so far are counted
abbrev pub invariant-loop-index : goal.invariant-loop-index
invariant-loop-index l = l.sum ≡ counted (length (members (λ before. line) None (take l.index (lines_from [] l.tree.windows l.kept))))
