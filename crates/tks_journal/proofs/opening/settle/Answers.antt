use Rattle.std.proofs.Common.{rules}
use Rattle.tks_journal.proofs.opening.settle.Goals as goal

pub returns-clause-settled : goal.returns-clause-settled
returns-clause-settled = search rules
