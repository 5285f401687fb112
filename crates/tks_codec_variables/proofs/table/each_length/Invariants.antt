use Rattle.tks_spelling.proofs.Counting.{CountsOn}
use Rattle.tks_codec_variables.specs.Table.{entry}
use Rattle.tks_codec_variables.proofs.table.each_length.Given as goal

abbrev pub invariant-loop-name : goal.invariant-loop-name
invariant-loop-name g l = CountsOn (entry (g.M.Members.spelling l.values)) l.sum l.name-iterator l.fn.entries
