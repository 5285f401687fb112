use Rattle.std.proofs.Common.{rules}
use Rattle.tks_text.proofs.text.Txt.push_byte.Goals as goal

pub returns-clause-ok : goal.returns-clause-ok
returns-clause-ok = search rules
