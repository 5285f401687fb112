use Rattle.tks_limits.proofs.Wider.{wider_admits}
use Rattle.tks_limits.proofs.laws.wider_limits_admit.Goals as goal

pub returns : goal.returns
returns c = wider_admits
