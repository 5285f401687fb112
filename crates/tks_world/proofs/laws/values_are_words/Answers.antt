use Rattle.tks_world.proofs.Words.{value_is_word, value_spells}
use Rattle.tks_world.proofs.laws.values_are_words.Goals as goal

pub returns-clause-word : goal.returns-clause-word
returns-clause-word c = value_is_word

pub returns-clause-alone : goal.returns-clause-alone
returns-clause-alone c = value_spells
