use Rattle.std.proofs.Common.{rules}
use Rattle.tks_text.proofs.list.Seq.push.Goals as goal

pub returns-clause-ok : goal.returns-clause-ok
returns-clause-ok = search rules
