use Rattle.tks_text.proofs.Escaped.{escape_is_read}
use Rattle.tks_text.proofs.laws.one_escape.Goals as goal

pub returns : goal.returns
returns c = escape_is_read
