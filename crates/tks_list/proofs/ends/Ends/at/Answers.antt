use Rattle.std.proofs.Common.{rules}
use Rattle.tks_list.proofs.ends.Ends.at.Goals as goal

pub returns-in-Space : goal.returns-in-Space
returns-in-Space = search rules
