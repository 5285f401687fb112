use Rattle.std.proofs.Common.{rules}
use Rattle.tks_text.proofs.truth.is_true_word.Goals as goal

pub returns-else-eq-2 : goal.returns-else-eq-2
returns-else-eq-2 = search rules
