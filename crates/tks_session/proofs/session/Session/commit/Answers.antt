use Rattle.std.proofs.Common.{rules}
use Rattle.tks_session.proofs.session.Session.commit.Goals as goal

pub returns-clause-ok : goal.returns-clause-ok
returns-clause-ok = search rules

pub returns-clause-acknowledged : goal.returns-clause-acknowledged
returns-clause-acknowledged = search rules
