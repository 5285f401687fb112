use Rattle.tks_session.proofs.Leads.{behind}
use Rattle.tks_session.proofs.laws.a_crash_keeps_what_was_acknowledged.Goals as goal

pub returns : goal.returns
returns c = behind
