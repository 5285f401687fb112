use Rattle.std.proofs.Common.{rules}
use Rattle.tks_spelling.specs.Spelling.{number_at}
use Rattle.tks_spelling.proofs.reading.u32_of.Goals as goal

pub returns : goal.returns
unfolding number_at
returns = search rules
