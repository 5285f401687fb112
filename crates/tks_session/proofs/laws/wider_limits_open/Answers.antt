use Rattle.tks_session.proofs.Wider.{opens_too}
use Rattle.tks_session.proofs.laws.wider_limits_open.Goals as goal

pub returns : goal.returns
returns c = opens_too
