use Rattle.tks_session.proofs.Formats.{opens_alike}
use Rattle.tks_session.proofs.laws.formats_open_alike.Goals as goal

pub returns : goal.returns
returns c = opens_alike
