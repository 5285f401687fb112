use Rattle.std.proofs.Common.{rules}
use Rattle.tks_journal.proofs.front.choose.Goals as goal

pub returns-in-Intact-Closed : goal.returns-in-Intact-Closed
returns-in-Intact-Closed = search rules
