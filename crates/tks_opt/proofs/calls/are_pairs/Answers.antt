use Rattle.std.proofs.Common.{rules}
use Rattle.tks_opt.proofs.calls.are_pairs.Goals as goal

pub returns-then-words-ge2 : goal.returns-then-words-ge2
returns-then-words-ge2 = search rules
