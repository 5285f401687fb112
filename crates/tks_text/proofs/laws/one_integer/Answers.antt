use Rattle.tks_text.proofs.Spelled.{spelled_is_read}
use Rattle.tks_text.proofs.laws.one_integer.Goals as goal

pub returns : goal.returns
returns c = spelled_is_read
