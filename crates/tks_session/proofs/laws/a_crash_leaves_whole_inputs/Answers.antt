use Rattle.tks_session.proofs.Leads.{by_first}
use Rattle.tks_session.proofs.laws.a_crash_leaves_whole_inputs.Goals as goal

pub returns : goal.returns
returns c = by_first
