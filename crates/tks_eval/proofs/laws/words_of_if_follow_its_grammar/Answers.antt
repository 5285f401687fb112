use Rattle.tks_eval.proofs.Grammar.{reads_if}
use Rattle.tks_eval.proofs.laws.words_of_if_follow_its_grammar.Goals as goal

pub returns : goal.returns
returns c = reads_if
