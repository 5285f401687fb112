use Rattle.std.proofs.Common.{rules}
use Rattle.tks_state.proofs.links.global_if.Goals as goal

pub returns : goal.returns
returns = search rules
