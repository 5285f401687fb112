use Rattle.std.proofs.Common.{rules}
use Rattle.tks_journal.proofs.loading.frame_from.Goals as goal

pub read_exactly-requires : goal.read_exactly-requires
read_exactly-requires = search rules

pub returns-clause-size : goal.returns-clause-size
returns-clause-size = search rules
