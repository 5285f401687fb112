use Rattle.std.proofs.Common.{◌≡◌, length}
use Rattle.tks_parse.specs.Tree.{join_words}
use Rattle.tks_parse.specs.View.{words_of, ready_words}
use Rattle.tks_parse.proofs.tree.ready.Given as goal

abbrev pub invariant-word : goal.invariant-word
invariant-word l = join_words (ready_words l.texts.items) (words_of l.rest) ≡ words_of l.fn.words

abbrev pub decreases-word : goal.decreases-word
decreases-word l = length l.rest
