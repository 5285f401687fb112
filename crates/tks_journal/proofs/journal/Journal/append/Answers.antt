use Rattle.std.proofs.Common.{rules}
use Rattle.tks_journal.proofs.journal.Journal.append.Goals as goal

pub returns-in_err-append_frame-clause-any_moment : goal.returns-in_err-append_frame-clause-any_moment
returns-in_err-append_frame-clause-any_moment = search rules

pub invariant_of-self-2 : goal.invariant_of-self-2
invariant_of-self-2 = search rules

pub returns-clause-added : goal.returns-clause-added
returns-clause-added = search rules

pub returns-clause-any_moment : goal.returns-clause-any_moment
returns-clause-any_moment = search rules
