use Rattle.std.proofs.Common.{rules}
use Rattle.tks_parse.proofs.tree.Script.contents.Goals as goal

pub returns : goal.returns
returns = search rules
