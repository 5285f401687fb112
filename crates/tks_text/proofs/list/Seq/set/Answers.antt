use Rattle.std.proofs.Common.{rules}
use Rattle.tks_text.proofs.list.Seq.set.Goals as goal

pub returns : goal.returns
returns = search rules
